-- Rows that stand by number, as one comes, goes or gets another slot.
use Rattle.std.proofs.Common.{◌≡◌, ◌≢◌, ℕ, zero, suc, ◌+◌, ◌<◌, ◌≤◌, List, [], ◌∷◌, length, map, get_or, set, take, ◌++◌, Contains}
use Rattle.std.proofs.Common.{inl, inr, refl, sym, ap, ◌∙◌, arith, get_or-set_same, get_or-set_other, length-set, Option, Some, None}
use Rattle.std.specs.Prelude.{insert, remove, Box, box_value}
use Rattle.std.specs.declared.alloc.Global.{Global}
use Rattle.std.proofs.lemmas.Bool.{cases_eq}
use Rattle.std.proofs.lemmas.List.{get_or-map, get_or-take, length-map, length-append, get_or_default, same_lists, take-take, take_at}
use Rattle.std.proofs.lemmas.List.Elements.{All-cons, All-tail}
use Rattle.std.proofs.lemmas.List.Sorted.{All-permutation, IsPermutation-insert, IsPermutation-remove}
use Rattle.ml_cone.specs.declared.slot.Slot.{Slot}
use Rattle.ml_store.specs.Boxes.{unboxed}
use Rattle.ml_store.specs.Rows.{numbers_in, number_at, AreInTurn, IsFresh, HaveOwnNumbers}
use Rattle.ml_store.specs.Numbered.{AreNumbered}
use Rattle.ml_store.specs.Shelf.{unboxed_one, row_at, behind, rows_at, AreShelved, AreInPlace}
use Rattle.ml_store.specs.Table.{with_slot}
use Rattle.ml_store.specs.declared.row.Row.{Row}
use Rattle.ml_store.proofs.Tables.{with_slot_is}
use lib.Seq.{get_or-append_seam}
use Rattle.ml_ratio.proofs.lemmas.Lists.{map_remove, map_contains, removed_gone, same_place}

-- the row at a number is that of the box there
pub row_read : (places : List (Option (Box Row Global))) (n : ℕ) → row_at (map unboxed_one places) n ≡ unboxed_one (get_or places n None)
row_read [] n = refl
row_read (p ∷ places) zero = refl
row_read (p ∷ places) (suc n) = row_read places n

-- rows that stand at their numbers are the rows at these numbers
pub shelved_are : (shelf : List (Option Row)) (rows : List Row) → AreShelved shelf rows → rows_at shelf (numbers_in rows) ≡ rows
shelved_are shelf [] all = refl
shelved_are shelf (r ∷ rows) all =
    ap (λ o. behind o (rows_at shelf (numbers_in rows))) (all 0 r (omega arith))
    ∙ ap (λ rs. r ∷ rs) (shelved_are shelf rows (All-tail (λ s. row_at shelf s.number ≡ Some s) r rows all))

-- what stands at the number of the row at a place
pub row_there : (shelf : List (Option Row)) (rows : List Row) (at n : ℕ) (d : Row) → AreShelved shelf rows → at < length rows → n ≡ number_at rows at → row_at shelf n ≡ Some (get_or rows at d)
row_there shelf rows at n d all lt e =
    let is : number_at rows at ≡ (get_or rows at d).number = get_or-map (λ (r : Row). r.number) rows at d 0 lt in
    ap (row_at shelf) (e ∙ is) ∙ all at d lt

abbrev some_of : Row → Option Row → Row
some_of d None = d
some_of d (Some r) = r

-- two rows that stand at one number are one row
pub one_row : (shelf : List (Option Row)) (n : ℕ) (r s : Row) → row_at shelf n ≡ Some r → row_at shelf n ≡ Some s → r ≡ s
one_row shelf n r s a b = ap (some_of r) (sym a ∙ b)

-- rows of other numbers stand where they stood, whatever comes to stand at one
pub shelved_others : (shelf : List (Option Row)) (rows : List Row) (n : ℕ) (o : Option Row) → AreShelved shelf rows → ¬ (Contains (numbers_in rows) n) → AreShelved (set shelf n o) rows
shelved_others shelf rows n o all none k d lt =
    let many = length-map rows (λ (r : Row). r.number) in
    let is = get_or-map (λ (r : Row). r.number) rows k d n lt in
    let apart : (get_or rows k d).number ≢ n = (λ e. none (k, omega arith, is ∙ e)) in
    get_or-set_other shelf n (get_or rows k d).number o None apart ∙ all k d lt

-- a row that comes in stands at its number, and all others where they stood
pub shelved_in : (shelf : List (Option Row)) (rows : List Row) (at : ℕ) (r : Row) → AreShelved shelf rows → IsFresh r.number rows → r.number < length shelf →
    AreShelved (set shelf r.number (Some r)) (insert rows at r)
shelved_in shelf rows at r all fresh lt =
    let P = λ (s : Row). row_at (set shelf r.number (Some r)) s.number ≡ Some s in
    All-permutation P (r ∷ rows) (insert rows at r) (IsPermutation-insert rows at r)
    (All-cons P r rows (get_or-set_same shelf r.number (Some r) None lt) (shelved_others shelf rows r.number (Some r) all fresh))

-- where the row at a place goes, all others stand where they stood
pub shelved_out : (shelf : List (Option Row)) (rows : List Row) (at n : ℕ) → AreShelved shelf rows → HaveOwnNumbers rows → at < length rows → n ≡ number_at rows at →
    AreShelved (set shelf n None) (remove rows at)
shelved_out shelf [] at n all differ lt e = absurd (omega arith)
shelved_out shelf (r ∷ rest) at n all differ lt e =
    let rows = r ∷ rest in
    let many = length-map rows (λ (s : Row). s.number) in
    let x : Row = get_or rows at r in
    let P = λ (s : Row). row_at shelf s.number ≡ Some s in
    let moved = IsPermutation-remove rows at x lt (get_or_default rows at r x lt) in
    let left = All-tail P x (remove rows at) (All-permutation P rows (x ∷ remove rows at) moved all) in
    let gone = removed_gone (numbers_in rows) at 0 (omega arith) differ in
    let none : ¬ (Contains (numbers_in (remove rows at)) n) = (rw (e, map_remove (λ (s : Row). s.number) rows at) gone) in
    shelved_others shelf (remove rows at) n None left none

-- where the row at a place gets another slot, it stands at its number with that, and all others where they stood
pub shelved_slot : (shelf : List (Option Row)) (rows : List Row) (at n : ℕ) (slot : Slot) (r : Row) → AreShelved shelf rows → HaveOwnNumbers rows → at < length rows →
    n ≡ number_at rows at → n < length shelf → row_at shelf n ≡ Some r → AreShelved (set shelf n (Some (record r { slot = slot }))) (with_slot rows at slot)
shelved_slot shelf rows at n slot r all differ lt e low there =
    let q : Row = record r { slot = slot } in
    let read : r ≡ get_or rows at r = one_row shelf n r (get_or rows at r) there (row_there shelf rows at n r all lt e) in
    let many = length-map rows (λ (s : Row). s.number) in
    let own : q.number ≡ n = ap (λ (s : Row). s.number) read ∙ sym (get_or-map (λ (s : Row). s.number) rows at r 0 lt) ∙ sym e in
    rw (← with_slot_is rows at r slot lt read) (λ k d h.
    let in' : k < length rows = (let m = length-set rows at q in omega arith) in
    elim (cases_eq k at) [
      | inl here ↦
          rw (here, get_or-set_same rows at q d lt) (ap (row_at (set shelf n (Some q))) own ∙ get_or-set_same shelf n (Some q) None low)
      | inr other ↦
          let is : number_at rows k ≡ (get_or rows k d).number = get_or-map (λ (s : Row). s.number) rows k d 0 in' in
          let apart : (get_or rows k d).number ≢ n = (λ f. other (same_place (numbers_in rows) k at 0 differ (omega arith) (omega arith) (is ∙ f ∙ e))) in
          rw (get_or-set_other rows at k q d other) (get_or-set_other shelf n (get_or rows k d).number (Some q) None apart ∙ all k d in')
    ])

-- rows whose numbers are their places stand at them, if each stands at its place
pub shelved_in_turn : (shelf : List (Option Row)) (rows : List Row) → AreInTurn rows → ((k : ℕ) (d : Row) → k < length rows → row_at shelf k ≡ Some (get_or rows k d)) → AreShelved shelf rows
shelved_in_turn shelf rows turn at k d lt =
    let is : number_at rows k ≡ (get_or rows k d).number = get_or-map (λ (r : Row). r.number) rows k d 0 lt in
    ap (row_at shelf) (sym is ∙ turn k lt) ∙ at k d lt

-- the rows that stand at their numbers are those that are read there
pub rows_are : (shelf : List (Option Row)) (numbers : List ℕ) (rows : List Row) → AreShelved shelf rows → numbers ≡ numbers_in rows → rows_at shelf numbers ≡ rows
rows_are shelf numbers rows all e = ap (rows_at shelf) e ∙ shelved_are shelf rows all

-- rows that stand at their numbers, in whose order the numbers are, are in their places
pub in_place : (shelf : List (Option Row)) (numbers : List ℕ) (rows : List Row) → AreShelved shelf rows → numbers ≡ numbers_in rows → AreNumbered rows →
    AreInPlace shelf numbers (rows_at shelf numbers)
in_place shelf numbers rows all e numbered = rw (rows_are shelf numbers rows all e) (record { numbered = numbered; numbers_are = e; shelved = all })

-- a row stands at the number of each place
pub some_there : (shelf : List (Option Row)) (rows : List Row) (at n : ℕ) → AreShelved shelf rows → at < length rows → n ≡ number_at rows at → (r : Row) × (row_at shelf n ≡ Some r)
some_there shelf [] at n all lt e = absurd (omega arith)
some_there shelf (r ∷ rows) at n all lt e = (get_or (r ∷ rows) at r, row_there shelf (r ∷ rows) at n r all lt e)

-- at a number in use stands the row that has it
pub live_there : (shelf : List (Option Row)) (rows : List Row) (n : ℕ) → AreShelved shelf rows → Contains (numbers_in rows) n →
    (r : Row) × Contains rows r × (r.number ≡ n) × (row_at shelf n ≡ Some r)
live_there shelf rows n all there =
    let s = map_contains (λ (t : Row). t.number) rows n there in
    let r : Row = s.0 in
    let k = s.1.0 in
    let is : get_or rows k r ≡ r = s.1.2 in
    (r, s.1, s.2, ap (row_at shelf) (sym s.2 ∙ ap (λ (t : Row). t.number) (sym is)) ∙ all k r s.1.1 ∙ ap Some is)

-- there is a place for a number at which a row stands
pub place_there : (shelf : List (Option Row)) (n : ℕ) (r : Row) → row_at shelf n ≡ Some r → n < length shelf
place_there [] n r e = absurd (let f : None ≡ Some r = e in cc)
place_there (o ∷ shelf) zero r e = omega arith
place_there (o ∷ shelf) (suc n) r e = (let lt = place_there shelf n r e in omega arith)

-- ascending numbers from 0 are those of rows whose numbers are their places
pub turn_numbers : (rows : List Row) (numbers : List ℕ) → length numbers ≡ length rows → ((k : ℕ) → k < length rows → get_or numbers k 0 ≡ k) → AreInTurn rows → numbers ≡ numbers_in rows
turn_numbers rows numbers many at turn =
    let long = length-map rows (λ (r : Row). r.number) in
    same_lists numbers (numbers_in rows) (omega arith) (λ k d h.
    get_or_default numbers k d 0 h ∙ at k (omega arith) ∙ sym (turn k (omega arith)) ∙ get_or_default (numbers_in rows) k 0 d (omega arith))

-- what is kept as rows come to stand at their places, the last one first: all places are there, those left are the first ones, and the others stand
abbrev pub AreLeft : List (Box Row Global) → List (Box Row Global) → List (Option (Box Row Global)) → Type 0
AreLeft boxes left places = (length places ≡ 32768) × (length left ≤ length boxes) × (left ≡ take (length left) boxes) ×
    ((k : ℕ) (d : Row) → length left ≤ k → k < length boxes → row_at (map unboxed_one places) k ≡ Some (get_or (unboxed boxes) k d))

-- the last row that is left comes to stand at its place
pub left_fewer : (boxes left next : List (Box Row Global)) (places : List (Option (Box Row Global))) (row : Box Row Global) (m : ℕ) → length boxes ≤ 32768 → AreLeft boxes left places →
    left ≡ next ++ row ∷ [] → length next ≡ m → AreLeft boxes next (set places m (Some row))
left_fewer boxes left next places row m few inv e long =
    let many : length places ≡ 32768 = inv.0 in
    let le : length left ≤ length boxes = inv.1 in
    let one : length left ≡ length next + 1 = ap length e ∙ length-append next (row ∷ []) in
    let last : get_or left m row ≡ row = rw (e, ← long) (get_or-append_seam next row [] row) in
    let read : row ≡ get_or boxes m row = sym last ∙ ap (λ xs. get_or xs m row) inv.2 ∙ get_or-take (length left) boxes m row (omega arith) in
    let rest : next ≡ take m boxes = sym (rw e (take_at next (row ∷ []) m long)) ∙ ap (take m) inv.2 ∙ take-take m (length left) boxes (omega arith) in
    rw long (
      length-set places m _ ∙ many,
      omega arith,
      rest,
      λ k d h in'.
          row_read (set places m (Some row)) k ∙
          elim (cases_eq k m) [
            | inl here ↦
                let is : get_or (unboxed boxes) m d ≡ row.value = get_or-map box_value boxes m row d (omega arith) ∙ ap box_value (sym read) in
                rw (here, is) (ap unboxed_one (get_or-set_same places m (Some row) None (omega arith)))
            | inr other ↦
                let apart : k ≢ m = other in
                ap unboxed_one (get_or-set_other places m k (Some row) None apart) ∙ sym (row_read places k) ∙ inv.3 k d (omega arith) in'
          ],
    )
