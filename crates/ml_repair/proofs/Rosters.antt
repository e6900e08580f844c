-- Places in a list of which one row may go, and into which one may come.
use Rattle.std.proofs.Common.{◌≡◌, ◌≢◌, ℕ, ◌+◌, ◌-◌, ◌<◌, ◌≤◌, List, length, get_or, Contains, inl, inr, sym, ap, ◌∙◌, arith, Option, Some, None}
use Rattle.std.specs.Prelude.{insert, remove, IfSome, MatchOption}
use Rattle.std.proofs.lemmas.List.{get_or_default, length-map}
use Rattle.std.proofs.lemmas.List.Edits.{length-insert, get_or-insert_below, get_or-insert_at, get_or-insert_above, length-remove, get_or-remove_below, get_or-remove_above}
use Rattle.ml_store.specs.Rows.{numbers_in, number_at, IsFresh, HaveOwnNumbers}
use Rattle.ml_store.specs.Table.{IsRowAt}
use Rattle.ml_store.specs.declared.row.Row.{Row}
use Rattle.ml_repair.specs.Roster.{left_rows, IsPlaceWithout}
use Rattle.ml_ratio.proofs.lemmas.Lists.{map_insert, map_remove, removed_gone, insert_only, remove_has}

-- what is in the shorter list is in the longer one
fresh_left : (numbers : List ℕ) (g n : ℕ) → g < length numbers → ¬ (Contains numbers n) → ¬ (Contains (remove numbers g) n)
fresh_left numbers g n lt fresh there = fresh (remove_has numbers g (get_or numbers g 0) n lt (get_or_default numbers g 0 (get_or numbers g 0) lt) there)

length-numbers : (rows : List Row) → length (numbers_in rows) ≡ length rows
length-numbers rows = length-map rows (λ (r : Row). r.number)

-- a number that no row has is that of no row that is left
pub left_fresh : (gone : Option ℕ) (rows : List Row) (n : ℕ) → IfSome gone (λ g. g < length rows) → IsFresh n rows → IsFresh n (left_rows gone rows)
left_fresh None rows n in' fresh there = fresh there
left_fresh (Some g) rows n in' fresh there =
    let many = length-numbers rows in
    fresh_left (numbers_in rows) g n (omega arith) fresh (rw (← map_remove (λ (r : Row). r.number) rows g) there)

-- the place of a number among the rows that are left follows from its place among all; it has none if its row goes
pub left_found : (gone : Option ℕ) (rows : List Row) (n at : ℕ) (found : Option ℕ) → IfSome gone (λ g. g < length rows) → HaveOwnNumbers rows → IsRowAt rows n at →
    MatchOption found (gone ≡ Some at) (IsPlaceWithout gone at) → MatchOption found (IsFresh n (left_rows gone rows)) (IsRowAt (left_rows gone rows) n)
left_found None rows n at None in' differ here h = absurd cc
left_found None rows n at (Some p) in' differ here h = rw h here
left_found (Some g) rows n at None in' differ here h = λ there.
    let many = length-numbers rows in
    let e : g ≡ at = cc in
    removed_gone (numbers_in rows) g 0 (omega arith) differ (rw (ap (λ i. number_at rows i) e ∙ here.1, ← map_remove (λ (r : Row). r.number) rows g) there)
left_found (Some g) rows n at (Some p) in' differ here h =
    let many = length-numbers rows in
    let cut = length-remove rows g in' in
    let numbers : numbers_in (remove rows g) ≡ remove (numbers_in rows) g = map_remove (λ (r : Row). r.number) rows g in
    let lt : at < length rows = here.0 in
    elim h [
      | inl below ↦
          let l : at < g = below.0 in
          let e : p ≡ at = below.1 in
          (omega arith, ap (λ ns. get_or ns p 0) numbers ∙ ap (λ i. get_or (remove (numbers_in rows) g) i 0) e ∙ get_or-remove_below (numbers_in rows) g 0 at below.0 (omega arith) ∙ here.1)
      | inr past ↦
          let l : g ≤ p = past.0 in
          let e : at ≡ p + 1 = past.1 in
          (omega arith, ap (λ ns. get_or ns p 0) numbers ∙ get_or-remove_above (numbers_in rows) g 0 p past.0 (omega arith) ∙ sym (ap (λ i. number_at rows i) past.1) ∙ here.1)
    ]

-- ---- one that is to come

-- the place of a number that is not the coming row's follows from its place in the list without that row
pub joined_found : (row : Row) (at : ℕ) (rows : List Row) (n : ℕ) (place found : Option ℕ) → at ≤ length rows → row.number ≢ n → MatchOption place (IsFresh n rows) (IsRowAt rows n) →
    MatchOption found (place ≡ None) (λ q. (p : ℕ) × (place ≡ Some p) × IsPlaceWithout (Some at) q p) → MatchOption found (IsFresh n (insert rows at row)) (IsRowAt (insert rows at row) n)
joined_found row at rows n None None le apart was h = λ there.
    elim (insert_only (numbers_in rows) at row.number n (rw (← map_insert (λ (r : Row). r.number) rows at row) there)) [
      | inl same ↦ apart same
      | inr old ↦ was old
    ]
joined_found row at rows n (Some p) None le apart was h = absurd cc
joined_found row at rows n None (Some q) le apart was h = let e = h.1 in absurd cc
joined_found row at rows n (Some p) (Some q) le apart was h =
    let many = length-numbers rows in
    let long = length-insert rows at row le in
    let numbers : numbers_in (insert rows at row) ≡ insert (numbers_in rows) at row.number = map_insert (λ (r : Row). r.number) rows at row in
    let e = h.1 in
    let same : h.0 ≡ p = cc in
    let lt : p < length rows = was.0 in
    elim h.2 [
      | inl below ↦
          let f : q ≡ p = (let x : h.0 ≡ q = below.1 in omega arith) in
          (omega arith, ap (λ ns. get_or ns q 0) numbers ∙ get_or-insert_below (numbers_in rows) at row.number 0 q below.0 (omega arith) ∙ ap (λ i. number_at rows i) f ∙ was.1)
      | inr past ↦
          let f : q ≡ p + 1 = (let x : q ≡ h.0 + 1 = past.1 in omega arith) in
          let g : at ≤ p = (let x : at ≤ h.0 = past.0 in omega arith) in (
            omega arith,
            ap (λ ns. get_or ns q 0) numbers ∙ ap (λ i. get_or (insert (numbers_in rows) at row.number) i 0) f ∙ get_or-insert_above (numbers_in rows) at row.number 0 p g (omega arith) ∙ was.1,
          )
    ]

-- the row that comes stands at its place, with its number
pub joined_here : (row : Row) (at : ℕ) (rows : List Row) → at ≤ length rows → IsRowAt (insert rows at row) row.number at
joined_here row at rows le =
    let many = length-numbers rows in
    let long = length-insert rows at row le in
    (omega arith, ap (λ ns. get_or ns at 0) (map_insert (λ (r : Row). r.number) rows at row) ∙ get_or-insert_at (numbers_in rows) at row.number 0 (omega arith))

-- the rows are the one that came, and those that were there
pub joined_row_is : (row : Row) (at : ℕ) (rows : List Row) (r d : Row) (place : ℕ) → at ≤ length rows → place ≡ at → get_or (insert rows at row) place d ≡ row
joined_row_is row at rows r d place le e = ap (λ i. get_or (insert rows at row) i d) e ∙ get_or-insert_at rows at row d le

-- a row behind the one that came stood one place earlier without it
pub joined_above : (row : Row) (at : ℕ) (rows : List Row) (d : Row) (place : ℕ) → at ≤ length rows → at < place → get_or (insert rows at row) place d ≡ get_or rows (place - 1) d
joined_above row at rows d place le lt =
    let e : place ≡ place - 1 + 1 = omega arith in
    ap (λ i. get_or (insert rows at row) i d) e ∙ get_or-insert_above rows at row d (place - 1) (omega arith) le

-- at and behind the place of the row that went, each row stood one place later before
pub left_above : (gone : Option ℕ) (g : ℕ) (rows : List Row) (at : ℕ) (d : Row) → gone ≡ Some g → g < length rows → g ≤ at → get_or (left_rows gone rows) at d ≡ get_or rows (at + 1) d
left_above out g rows at d is in' le = rw is (get_or-remove_above rows g d at le in')

-- where a row goes, one row less is left
pub left_length : (gone : Option ℕ) (g : ℕ) (rows : List Row) → gone ≡ Some g → g < length rows → length (left_rows gone rows) + 1 ≡ length rows
left_length out g rows is in' = rw is (length-remove rows g in')
