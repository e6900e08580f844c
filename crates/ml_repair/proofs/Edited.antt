-- Slots after one label goes or comes, from those that a repair gives the longer list.
use Rattle.std.proofs.Common.{◌≡◌, ◌≢◌, ℕ, ◌+◌, ◌<◌, ◌≤◌, inl, inr, arith, refl, sym, subst, ap, ◌∙◌, List, [], ◌∷◌, zero, suc, length, get_or, ◌-◌, true, false}
use Rattle.std.specs.Prelude.{◌↔◌, insert, remove}
use Rattle.std.proofs.lemmas.Bool.{cases_lt}
use Rattle.std.proofs.lemmas.List.{length-map}
use Rattle.std.proofs.lemmas.List.Edits.{length-insert, get_or-insert_at}
use Rattle.ml_cone.specs.Choice.{IsEnd}
use Rattle.ml_cone.specs.Slots.{HaveOwnSlots, AreSlots, IsOwnSlot, row, ends, no_slot}
use Rattle.ml_cone.specs.declared.label.Label.{Label}
use Rattle.ml_cone.specs.declared.slot.Slot.{Slot}
use Rattle.ml_store.specs.Rows.{numbers_in, labels_in, slots_in, number_at}
use Rattle.ml_store.specs.declared.row.Row.{Row}
use Rattle.ml_repair.specs.Plan.{moved_row, moved_rows, slot_for}
use Rattle.ml_repair.specs.Repair.{AreOwn, Stands, present_slots}
use Rattle.ml_repair.specs.Size.{IsSize}
use Rattle.ml_repair.specs.Touched.{IsTouched, AreTouched, left_out}
use Rattle.ml_store.specs.declared.moved.Moved.{Moved}
use Rattle.ml_repair.proofs.Carrying.{CarriedLaw}
use Rattle.ml_repair.proofs.Joined.{IsPlaceOf, without_insert, without_remove, all_shorter, all_longer, own_all_there, all_own_there, longest_same, left_out_ends}
use Rattle.ml_repair.proofs.Present.{length-labels, length-present}
use Rattle.ml_repair.proofs.Repairing.{own_before}
use Rattle.ml_ratio.proofs.lemmas.Lists.{map_insert, map_remove}

-- the law: slots are the longest choice with its blockers exactly where each label has the slot that those before it leave
abbrev pub OwnLaw : Type 0
OwnLaw = (number : ℕ → ℕ) (labels : List Label) (slots : List Slot) → HaveOwnSlots number labels slots ↔ AreSlots number labels slots

-- an element that comes into a list and goes again leaves the list as it was
pub remove_insert : {X : Type 0} (xs : List X) (i : ℕ) (y : X) → i ≤ length xs → remove (insert xs i y) i ≡ xs
remove_insert [] zero y le = refl
remove_insert [] (suc i) y le = absurd (omega arith)
remove_insert (x ∷ xs) zero y le = refl
remove_insert (x ∷ xs) (suc i) y le = ap (λ ys. x ∷ ys) (remove_insert xs i y (omega arith))

-- rows get the same slots whether another row comes in before the new slots are set or after
pub moved-insert : (moved : List Moved) (rows : List Row) (at : ℕ) (r : Row) → moved_rows moved (insert rows at r) ≡ insert (moved_rows moved rows) at (moved_row moved r)
moved-insert moved rows at r = map_insert (moved_row moved) rows at r

-- rows get the same slots whether another row goes before the new slots are set or after
pub moved-remove : (moved : List Moved) (rows : List Row) (at : ℕ) → moved_rows moved (remove rows at) ≡ remove (moved_rows moved rows) at
moved-remove moved rows at = map_remove (moved_row moved) rows at

-- the present slots with a row more are those of the other rows, and that of the row at its place
pub present-insert : (moved : List Moved) (rows : List Row) (at : ℕ) (r : Row) → present_slots (insert rows at r) moved ≡ insert (present_slots rows moved) at (moved_row moved r).slot
present-insert moved rows at r = ap slots_in (moved-insert moved rows at r) ∙ map_insert (λ (t : Row). t.slot) (moved_rows moved rows) at (moved_row moved r)

-- the present slots without a row are those of all rows but the one at its place
pub present-remove : (moved : List Moved) (rows : List Row) (at : ℕ) → present_slots (remove rows at) moved ≡ remove (present_slots rows moved) at
present-remove moved rows at = ap slots_in (moved-remove moved rows at) ∙ map_remove (λ (t : Row). t.slot) (moved_rows moved rows) at

module _ (own_law : OwnLaw) (carried_law : CarriedLaw) where
  -- ---- the label at `at` goes

  module _ (rows : List Row) (at : ℕ) (old new : List Moved) (in' : at < length rows) where
    -- before the label goes, each label has the slot that all before it leave, the one that goes among them
    pub gone_start : AreSlots (number_at rows) (labels_in rows) (present_slots rows old) → AreOwn (number_at rows) (labels_in rows) (present_slots rows old) at false false
    gone_start are = own_all_there (number_at rows) (labels_in rows) (present_slots rows old) at false false refl ((own_law (number_at rows) (labels_in rows) (present_slots rows old)).1 are)

    number_link : (j k : ℕ) → IsPlaceOf at j k → number_at rows j ≡ number_at (remove rows at) k
    number_link j k p =
        let many = length-map rows (λ (r : Row). r.number) in
        (without_remove (numbers_in rows) at (omega arith)).same j k 0 p ∙ ap (λ ns. get_or ns k 0) (sym (map_remove (λ (r : Row). r.number) rows at))

    -- once each label that stays has the slot that those before it leave without the one that goes, the slots are the longest choice
    pub gone_end : AreOwn (number_at rows) (labels_in rows) (present_slots rows new) at false true →
        AreSlots (number_at (remove rows at)) (labels_in (remove rows at)) (present_slots (remove rows at) new)
    gone_end own =
        let a = length-labels rows in
        let b = length-present rows new in
        (own_law (number_at (remove rows at)) (labels_in (remove rows at)) (present_slots (remove rows at) new)).0
        (rw (map_remove (λ (r : Row). r.label) rows at, present-remove new rows at)
        (all_shorter carried_law at (number_at rows) (number_at (remove rows at)) (labels_in rows) (remove (labels_in rows) at) (present_slots rows new) (remove (present_slots rows new) at)
        number_link (without_remove (labels_in rows) at (omega arith)) (without_remove (present_slots rows new) at (omega arith)) false true (λ e. cc) own))

    -- where n labels are touched between the slots before and after, the edit touches n labels as the label goes
    pub gone_cost : AreSlots (number_at rows) (labels_in rows) (present_slots rows old) → AreSlots (number_at (remove rows at)) (labels_in (remove rows at)) (present_slots (remove rows at) new) →
        (n : ℕ) → IsSize (IsTouched (labels_in rows) at false (ends (present_slots rows old)) (ends (present_slots rows new))) n → AreTouched (labels_in rows) at false n
    gone_cost was is n size =
        let b = length-present rows new in
        let l : at < length (present_slots rows new) = omega arith in
        record {
          before = ends (present_slots rows old);
          after = ends (present_slots rows new);
          longest_before = was.longest;
          longest_after = longest_same (remove (labels_in rows) at) (ends (remove (present_slots rows new) at))
              (left_out at (ends (present_slots rows new))) (λ k h. left_out_ends (present_slots rows new) at k l)
              (rw (map_remove (λ (r : Row). r.label) rows at, present-remove new rows at) at is.longest);
          size = size;
        }

  -- ---- a label comes in at `at`

  module _ (rows : List Row) (at : ℕ) (r : Row) (old new : List Moved) (le : at ≤ length rows) where
    all : List Row
    all = insert rows at r

    length-all : length (insert rows at r) ≡ length rows + 1
    length-all = length-insert rows at r le

    come_link : (j k : ℕ) → IsPlaceOf at j k → number_at (insert rows at r) j ≡ number_at rows k
    come_link j k p =
        let many = length-map rows (λ (t : Row). t.number) in
        ap (λ ns. get_or ns j 0) (map_insert (λ (t : Row). t.number) rows at r) ∙ (without_insert (numbers_in rows) at r.number (omega arith)).same j k 0 p

    -- before the label comes, each other label has the slot that those before it leave without the one that comes
    pub come_start : AreSlots (number_at rows) (labels_in rows) (present_slots rows old) →
        AreOwn (number_at (insert rows at r)) (labels_in (insert rows at r)) (present_slots (insert rows at r) old) at true false
    come_start are =
        let a = length-labels rows in
        let b = length-present rows old in
        rw (map_insert (λ (t : Row). t.label) rows at r, present-insert old rows at r)
        (all_longer carried_law at (number_at (insert rows at r)) (number_at rows) (insert (labels_in rows) at r.label)
        (labels_in rows) (insert (present_slots rows old) at (moved_row old r).slot) (present_slots rows old)
        come_link (without_insert (labels_in rows) at r.label (omega arith)) (without_insert (present_slots rows old) at (moved_row old r).slot (omega arith)) true false (λ e. cc)
        ((own_law (number_at rows) (labels_in rows) (present_slots rows old)).1 are))

    -- once each label has the slot that those before it leave, the one that came among them, the slots are the longest choice
    pub come_end : AreOwn (number_at (insert rows at r)) (labels_in (insert rows at r)) (present_slots (insert rows at r) new) at true true →
        AreSlots (number_at (insert rows at r)) (labels_in (insert rows at r)) (present_slots (insert rows at r) new)
    come_end own =
        (own_law (number_at (insert rows at r)) (labels_in (insert rows at r)) (present_slots (insert rows at r) new)).0
        (all_own_there (number_at (insert rows at r)) (labels_in (insert rows at r)) (present_slots (insert rows at r) new) at true true refl own)

    -- where n labels are touched between the slots before and after, the edit touches n labels as the label comes
    pub come_cost : AreSlots (number_at rows) (labels_in rows) (present_slots rows old) →
        AreSlots (number_at (insert rows at r)) (labels_in (insert rows at r)) (present_slots (insert rows at r) new) → (n : ℕ) →
        IsSize (IsTouched (labels_in (insert rows at r)) at true (ends (present_slots (insert rows at r) old)) (ends (present_slots (insert rows at r) new))) n →
        AreTouched (labels_in (insert rows at r)) at true n
    come_cost was is n size =
        let a = length-labels rows in
        let b = length-present rows old in
        let c = length-present (insert rows at r) old in
        let d = length-all in
        let l : at < length (present_slots (insert rows at r) old) = omega arith in
        record {
          before = ends (present_slots (insert rows at r) old);
          after = ends (present_slots (insert rows at r) new);
          longest_before =
              rw (map_insert (λ (t : Row). t.label) rows at r, remove_insert (labels_in rows) at r.label (omega arith))
              (longest_same (labels_in rows) (ends (present_slots rows old)) (left_out at (ends (present_slots (insert rows at r) old)))
              (λ k h. sym (ap (λ (xs : List Slot). ends xs k) (ap (λ (xs : List Slot). remove xs at) (present-insert old rows at r)
              ∙ remove_insert (present_slots rows old) at (moved_row old r).slot (omega arith))) ∙ left_out_ends (present_slots (insert rows at r) old) at k l)
              was.longest);
          longest_after = is.longest;
          size = size;
        }

  -- ---- the slot of the label that comes, found while another stood in its row

  module _ (rows : List Row) (at : ℕ) (r s : Row) (old : List Moved) (le : at ≤ length rows) (one_number : r.number ≡ s.number) (one_label : r.label ≡ s.label) where
    numbers_same : numbers_in (insert rows at r) ≡ numbers_in (insert rows at s)
    numbers_same = map_insert (λ (t : Row). t.number) rows at r ∙ ap (λ n. insert (numbers_in rows) at n) one_number ∙ sym (map_insert (λ (t : Row). t.number) rows at s)

    -- the list has the same labels whichever of the two rows stands in it
    pub labels_same : labels_in (insert rows at r) ≡ labels_in (insert rows at s)
    labels_same = map_insert (λ (t : Row). t.label) rows at r ∙ ap (λ n. insert (labels_in rows) at n) one_label ∙ sym (map_insert (λ (t : Row). t.label) rows at s)

    others_same : (k : ℕ) → k ≢ at → get_or (present_slots (insert rows at s) old) k no_slot ≡ get_or (present_slots (insert rows at r) old) k no_slot
    others_same k ne =
        let a = without_insert (present_slots rows old) at (moved_row old s).slot (let b = length-present rows old in omega arith) in
        let b = without_insert (present_slots rows old) at (moved_row old r).slot (let b = length-present rows old in omega arith) in
        let p = place k ne in
        ap (λ (xs : List Slot). get_or xs k no_slot) (present-insert old rows at s) ∙ a.same k p.0 no_slot p.1
        ∙ sym (b.same k p.0 no_slot p.1) ∙ sym (ap (λ (xs : List Slot). get_or xs k no_slot) (present-insert old rows at r))
      where
        place : (j : ℕ) → j ≢ at → (k : ℕ) × IsPlaceOf at j k
        place j ne = elim (cases_lt j at) [ inl less ↦ (j, inl (less, refl)) | inr more ↦ (j - 1, inr (omega arith, omega arith)) ]

    -- the slot that the row has now
    slot_here' : (slot : Slot) → s.slot ≡ slot → ((own : Slot) → slot_for s.number own old ≡ own) → get_or (present_slots (insert rows at s) old) at no_slot ≡ slot
    slot_here' slot is untouched =
        let b = length-present rows old in
        ap (λ (xs : List Slot). get_or xs at no_slot) (present-insert old rows at s) ∙ get_or-insert_at (present_slots rows old) at (moved_row old s).slot no_slot (omega arith) ∙ untouched s.slot ∙ is

    -- the slot found while the one row stood there is the label's own once the row with that slot stands there
    pub come_here : (slot : Slot) → s.slot ≡ slot → ((own : Slot) → slot_for s.number own old ≡ own) →
        ((d : Label) → IsOwnSlot (row (number_at (insert rows at r)) (labels_in (insert rows at r)) (present_slots (insert rows at r) old) d)
        (Stands true true at at) (get_or (labels_in (insert rows at r)) at d) slot) → (d : Label) →
        IsOwnSlot (row (number_at (insert rows at s)) (labels_in (insert rows at s)) (present_slots (insert rows at s) old) d)
        (Stands true true at at) (get_or (labels_in (insert rows at s)) at d) (get_or (present_slots (insert rows at s) old) at no_slot)
    come_here slot is untouched own d =
        rw (slot_here' slot is untouched)
        (own_before carried_law (number_at (insert rows at s)) (labels_in (insert rows at s)) (present_slots (insert rows at r) old) at true at
        (present_slots (insert rows at r) old) (present_slots (insert rows at s) old) others_same d at (omega arith) slot
        (subst (λ (ls : List Label). IsOwnSlot (row (number_at (insert rows at s)) ls (present_slots (insert rows at r) old) d) (Stands true true at at) (get_or ls at d) slot) labels_same
        (subst (λ (ns : List ℕ). IsOwnSlot (row (λ j. get_or ns j 0) (labels_in (insert rows at r)) (present_slots (insert rows at r) old) d)
        (Stands true true at at) (get_or (labels_in (insert rows at r)) at d) slot) numbers_same (own d))))

-- ends of labels that were there lie in their ranges
pub come_ends : (number : ℕ → ℕ) (labels : List Label) (slots : List Slot) (at : ℕ) → at < length labels →
    AreOwn number labels slots at true false → (d : Label) (j : ℕ) → Stands true true at at j → IsEnd (get_or labels j d) (ends slots j)
come_ends number labels slots at in' own d j stands = let lt : j < at = stands.0 in (own.own d j (omega arith) (λ e. absurd (omega arith))).is_end

-- the number of the row that comes
pub number_come : (rows : List Row) (at : ℕ) (r : Row) → at ≤ length rows → number_at (insert rows at r) at ≡ r.number
number_come rows at r le =
    let many = length-map rows (λ (t : Row). t.number) in
    ap (λ ns. get_or ns at 0) (map_insert (λ (t : Row). t.number) rows at r) ∙ get_or-insert_at (numbers_in rows) at r.number 0 (omega arith)
