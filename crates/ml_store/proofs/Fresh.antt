-- Numbers of rows as a row comes, goes or gets another slot.
use Rattle.std.proofs.Common.{◌≡◌, ◌∙◌, ℕ, ◌<◌, ◌≤◌, List, length, get_or, Contains, subst, arith}
use Rattle.std.specs.Prelude.{insert, remove}
use Rattle.std.proofs.lemmas.List.{get_or_default, length-map}
use Rattle.ml_cone.specs.declared.slot.Slot.{Slot}
use Rattle.ml_store.specs.Rows.{numbers_in, AreInTurn, IsFresh, HaveOwnNumbers}
use Rattle.ml_store.specs.Table.{with_slot}
use Rattle.ml_store.specs.declared.row.Row.{Row}
use Rattle.ml_store.proofs.Different.{different_remove}
use Rattle.ml_store.proofs.Naming.{number_read}
use Rattle.ml_store.proofs.Tables.{numbers-with_slot}
use Rattle.ml_ratio.proofs.lemmas.Lists.{contains_map, different_insert, map_insert, map_remove, removed_gone}

-- where no row has the number, any one of the rows has another
pub not_fresh : (rows : List Row) (n : ℕ) (r : Row) → IsFresh n rows → Contains rows r → ¬ (r.number ≡ n)
not_fresh rows n r fresh there e = fresh (subst (Contains (numbers_in rows)) e (contains_map (λ (s : Row). s.number) rows r there))

-- once one of some rows with numbers of their own is taken out, no row has its number
pub fresh_removed : (rows : List Row) (at : ℕ) (r : Row) → HaveOwnNumbers rows → at < length rows → r ≡ get_or rows at r → IsFresh r.number (remove rows at)
fresh_removed rows at r differ lt read there =
    let n = length-map rows (λ (s : Row). s.number) in
    removed_gone (numbers_in rows) at 0 (omega arith) differ (rw (← map_remove (λ (s : Row). s.number) rows at, number_read rows at r lt read) there)

-- rows with numbers of their own still have them when one row is taken out
pub differ_removed : (rows : List Row) (at : ℕ) → HaveOwnNumbers rows → at < length rows → HaveOwnNumbers (remove rows at)
differ_removed rows at differ lt =
    let n = length-map rows (λ (s : Row). s.number) in
    rw (map_remove (λ (s : Row). s.number) rows at) (different_remove (numbers_in rows) at (omega arith) differ)

-- rows with numbers of their own still have them when a row comes in whose number no row has
pub differ_inserted : (rows : List Row) (at : ℕ) (r : Row) → HaveOwnNumbers rows → at ≤ length rows → IsFresh r.number rows → HaveOwnNumbers (insert rows at r)
differ_inserted rows at r differ le fresh =
    let n = length-map rows (λ (s : Row). s.number) in
    rw (map_insert (λ (s : Row). s.number) rows at r) (different_insert (numbers_in rows) at r.number (omega arith) fresh differ)

-- rows with numbers of their own still have them when one row gets another slot
pub differ_moved : (rows : List Row) (at : ℕ) (slot : Slot) → HaveOwnNumbers rows → HaveOwnNumbers (with_slot rows at slot)
differ_moved rows at slot differ = rw (numbers-with_slot rows at slot) differ

-- numbers that are places differ
pub differ_in_turn : (rows : List Row) → AreInTurn rows → HaveOwnNumbers rows
differ_in_turn rows turn i j d below within same =
    let many = length-map rows (λ (r : Row). r.number) in
    let one = get_or_default (numbers_in rows) i d 0 (omega arith) ∙ turn i (omega arith) in
    let other = get_or_default (numbers_in rows) j d 0 within ∙ turn j (omega arith) in
    omega arith
