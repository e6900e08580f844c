-- Names of rows: numbers and ids.
use Rattle.std.proofs.Common.{◌≡◌, ℕ, ◌<◌, List, length, get_or, map, Contains, sym, ap, ◌∙◌, arith}
use Rattle.std.specs.Prelude.{remove}
use Rattle.std.proofs.lemmas.List.{get_or_default, get_or-map, length-map}
use Rattle.ml_store.specs.Rows.{numbers_in, number_at, HaveOwnNumbers}
use Rattle.ml_store.specs.Names.{Name, naming_of, names_in}
use Rattle.ml_store.specs.declared.row.Row.{Row}
use Rattle.ml_store.proofs.ByName.{AreUnique}
use Rattle.ml_ratio.proofs.lemmas.Lists.{contains_map, map_contains, map_remove, removed_gone, same_place}
use Rattle.std.proofs.lemmas.Simd.{map-map}

-- the numbers of the rows' names are the numbers of the rows
pub number_of_names : (rows : List Row) → map (λ (x : Name). x.number) (names_in rows) ≡ numbers_in rows
number_of_names rows = map-map (λ (x : Name). x.number) naming_of rows

-- the row that has a name's number has its id
pub same_name : (rows : List Row) (at : ℕ) (r : Row) (name : Name) → HaveOwnNumbers rows → at < length rows →
    r ≡ get_or rows at r → r.number ≡ name.number → Contains (names_in rows) name → naming_of r ≡ name
same_name rows at r name differ lt read same there =
    let some = map_contains naming_of rows name there in
    let s : Row = some.0 in
    let k = some.1.0 in
    let in' : k < length rows = some.1.1 in
    let is : get_or rows k s ≡ s = some.1.2 in
    let many = length-map rows (λ (t : Row). t.number) in
    let a : get_or (numbers_in rows) at 0 ≡ r.number = get_or-map (λ (t : Row). t.number) rows at r 0 lt ∙ ap (λ (t : Row). t.number) (sym read) in
    let b : get_or (numbers_in rows) k 0 ≡ s.number = get_or-map (λ (t : Row). t.number) rows k s 0 in' ∙ ap (λ (t : Row). t.number) is in
    let n : s.number ≡ name.number = ap (λ (x : Name). x.number) some.2 in
    let e : at ≡ k = same_place (numbers_in rows) at k 0 differ (omega arith) (omega arith) (a ∙ same ∙ sym n ∙ sym b) in
    let q : r ≡ s = read ∙ ap (λ i. get_or rows i r) e ∙ get_or_default rows k r s in' ∙ is in
    ap naming_of q ∙ some.2

-- the number of a row that is read
pub number_read : (rows : List Row) (at : ℕ) (r : Row) → at < length rows → r ≡ get_or rows at r → number_at rows at ≡ r.number
number_read rows at r lt read = get_or-map (λ (t : Row). t.number) rows at r 0 lt ∙ ap (λ (t : Row). t.number) (sym read)

-- no two rows have one number, so no two names have
pub unique_names : (rows : List Row) → HaveOwnNumbers rows → AreUnique (names_in rows)
unique_names rows differ a b in_a in_b same =
    let s = map_contains naming_of rows a in_a in
    let r : Row = s.0 in
    let at = s.1.0 in
    let lt : at < length rows = s.1.1 in
    let is : get_or rows at r ≡ r = s.1.2 in
    let n : r.number ≡ b.number = ap (λ (x : Name). x.number) s.2 ∙ same in
    sym s.2 ∙ same_name rows at r b differ lt (sym is) n in_b

-- a number in use is that of some name
pub name_there : (rows : List Row) (number : ℕ) → Contains (numbers_in rows) number → (name : Name) × Contains (names_in rows) name × (name.number ≡ number)
name_there rows number there =
    let s = map_contains (λ (t : Row). t.number) rows number there in
    let r : Row = s.0 in
    (naming_of r, contains_map naming_of rows r s.1, s.2)

-- a name's number is in use
pub number_there : (rows : List Row) (name : Name) → Contains (names_in rows) name → Contains (numbers_in rows) name.number
number_there rows name there = rw (← number_of_names rows) (contains_map (λ (x : Name). x.number) (names_in rows) name there)

-- what is taken out is gone
pub name_gone : (rows : List Row) (at : ℕ) (d : Name) → HaveOwnNumbers rows → at < length (names_in rows) → ¬ (Contains (remove (names_in rows) at) (get_or (names_in rows) at d))
name_gone rows at d differ lt there =
    let names = names_in rows in
    let many = length-map names (λ (x : Name). x.number) in
    let e = number_of_names rows in
    let number : get_or (numbers_in rows) at 0 ≡ (get_or names at d).number = ap (λ ns. get_or ns at 0) (sym e) ∙ get_or-map (λ (x : Name). x.number) names at d 0 lt in
    let gone = removed_gone (numbers_in rows) at 0 (let m = ap length e in omega arith) differ in
    gone (rw (number, ← e, ← map_remove (λ (x : Name). x.number) names at) (contains_map (λ (x : Name). x.number) (remove names at) (get_or names at d) there))
