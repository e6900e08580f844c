-- Rows with new slots, and what is read of them.
use Rattle.std.proofs.Common.{◌≡◌, ◌≢◌, ℕ, zero, suc, ◌<◌, ◌≤◌, List, [], ◌∷◌, length, get_or, map, inl, inr, refl, sym, ap, ◌∙◌, arith}
use Rattle.std.specs.Prelude.{All, ◌==◌, if◌then◌else◌}
use Rattle.std.proofs.lemmas.Bool.{cases_lt}
use Rattle.std.proofs.lemmas.List.{get_or-map, length-map}
use Rattle.ml_cone.specs.Slots.{Rival, no_slot}
use Rattle.ml_cone.specs.declared.label.Label.{Label}
use Rattle.ml_cone.specs.declared.slot.Slot.{Slot}
use Rattle.ml_store.specs.Rows.{numbers_in, labels_in, HaveOwnNumbers}
use Rattle.ml_store.specs.declared.row.Row.{Row}
use Rattle.ml_store.specs.declared.moved.Moved.{Moved}
use Rattle.ml_repair.specs.Plan.{moved_row, moved_rows, slot_for}
use Rattle.ml_repair.specs.Repair.{present_slots, rival_in, IsMovedAt}
use Rattle.ml_store.proofs.lemmas.Moved.{if_same, if_other}
use Rattle.ml_repair.proofs.NearRosters.{row_there}
use Rattle.ml_ratio.proofs.lemmas.Lists.{same_place, map_read}
use Rattle.std.proofs.lemmas.Simd.{map-map}

-- there is one present slot for each row
pub length-present : (rows : List Row) (moved : List Moved) → length (present_slots rows moved) ≡ length rows
length-present rows moved = length-map (moved_rows moved rows) (λ (r : Row). r.slot) ∙ length-map rows (moved_row moved)

-- there is one label for each row
pub length-labels : (rows : List Row) → length (labels_in rows) ≡ length rows
length-labels rows = length-map rows (λ (r : Row). r.label)

-- the present slot of a row that is read
pub present_read : (rows : List Row) (moved : List Moved) (p : ℕ) (r : Row) → p < length rows → r ≡ get_or rows p r → get_or (present_slots rows moved) p no_slot ≡ slot_for r.number r.slot moved
present_read rows moved p r lt read =
    let n = length-map rows (moved_row moved) in
    get_or-map (λ (t : Row). t.slot) (moved_rows moved rows) p (moved_row moved r) no_slot (omega arith)
    ∙ ap (λ (t : Row). t.slot) (get_or-map (moved_row moved) rows p r (moved_row moved r) lt ∙ ap (moved_row moved) (sym read))

-- rows keep their labels as they get new slots
pub labels-moved : (rows : List Row) (moved : List Moved) → labels_in (moved_rows moved rows) ≡ labels_in rows
labels-moved rows moved = map-map (λ (t : Row). t.label) (moved_row moved) rows

-- rows keep their numbers as they get new slots
pub numbers-moved : (rows : List Row) (moved : List Moved) → numbers_in (moved_rows moved rows) ≡ numbers_in rows
numbers-moved rows moved = map-map (λ (t : Row). t.number) (moved_row moved) rows

-- a low number
pub low_number : (rows : List Row) (p : ℕ) (r : Row) → All (λ n. n < 32768) (numbers_in rows) → p < length rows → r ≡ get_or rows p r → r.number < 32768
low_number rows p r low lt read =
    let many = length-map rows (λ (t : Row). t.number) in
    let e = map_read (λ (t : Row). t.number) rows p r 0 lt read in
    let h = low p 0 (omega arith) in
    omega arith

-- what is chosen at a place
pub chosen_is : (rows : List Row) (moved : List Moved) (low : Label) (places : List ℕ) (k : ℕ) (d : Rival) →
    k < length places → get_or (map (rival_in rows moved low) places) k d ≡ rival_in rows moved low (get_or places k 0)
chosen_is rows moved low places k d lt = get_or-map (rival_in rows moved low) places k 0 d lt

-- past the end
pub get_past : {A : Type 0} (xs : List A) (k : ℕ) (d : A) → length xs ≤ k → get_or xs k d ≡ d
get_past [] k d le = refl
get_past (x ∷ xs) zero d le = absurd (omega arith)
get_past (x ∷ xs) (suc k) d le = get_past xs k d (omega arith)

-- the row at a place gets another slot
pub moved_at : (rows : List Row) (i : ℕ) (r : Row) (slot : Slot) (before after : List Moved) → HaveOwnNumbers rows → i < length rows → r ≡ get_or rows i r →
    ((n : ℕ) (own : Slot) → slot_for n own after ≡ (if n == r.number then slot else slot_for n own before)) → IsMovedAt rows i slot before after
moved_at rows i r slot before after differ lt read put = record {
  here = present_read rows after i r lt read ∙ put r.number r.slot ∙ if_same r.number r.number slot (slot_for r.number r.slot before) refl;
  others = λ k ne. elim (cases_lt k (length rows)) [
    | inl k_in ↦
        let s = row_there rows k k_in in
        let t : Row = s.0 in
        let many = length-map rows (λ (x : Row). x.number) in
        let apart : t.number ≢ r.number = (λ e. ne (same_place (numbers_in rows) k i 0 differ (omega arith) (omega arith)
        (map_read (λ (t : Row). t.number) rows k t 0 k_in s.1 ∙ e ∙ sym (map_read (λ (t : Row). t.number) rows i r 0 lt read)))) in
        present_read rows after k t k_in s.1 ∙ put t.number t.slot ∙ if_other t.number r.number slot (slot_for t.number t.slot before) apart ∙ sym (present_read rows before k t k_in s.1)
    | inr past ↦
        let a = length-present rows after in
        let b = length-present rows before in
        get_past (present_slots rows after) k no_slot (omega arith) ∙ sym (get_past (present_slots rows before) k no_slot (omega arith))
  ];
  same = λ n own ne. put n own ∙ if_other n r.number slot (slot_for n own before) (λ e. ne (e ∙ sym (map_read (λ (t : Row). t.number) rows i r 0 lt read)));
}
