-- Rows made of labels in priority order, each with its slot and its place as its number.
use Rattle.std.proofs.Common.{◌≡◌, ℕ, ◌+◌, ◌<◌, ◌≤◌, List, [], ◌∷◌, ◌++◌, length, get_or, take, reverse, map, inl, inr, sym, ap, ◌∙◌, arith}
use Rattle.std.specs.Prelude.{Box, box_value}
use Rattle.std.specs.declared.alloc.Global.{Global}
use Rattle.std.proofs.lemmas.Bool.{cases_lt}
use Rattle.std.proofs.lemmas.List.{map-append, append_assoc, reverse-append, length-append, length-map, get_or-map, get_or_push, take_more}
use Rattle.std.proofs.Math.ListN.{get_or-append}
use Rattle.ml_cone.specs.Label.{IsLabelList}
use Rattle.ml_cone.specs.Slots.{Rival, IsOwnSlot, AreSlots, row, no_slot}
use Rattle.ml_cone.specs.declared.label.Label.{Label}
use Rattle.ml_cone.specs.declared.slot.Slot.{Slot}
use Rattle.ml_store.specs.Boxes.{unboxed}
use Rattle.ml_store.specs.Rows.{numbers_in, labels_in, slots_in, number_at, AreInTurn, HaveOwnIds}
use Rattle.ml_store.specs.declared.row.Row.{Row}
use Rattle.ml_store.proofs.lemmas.Numbered.{numbered_in_turn}
use Rattle.ml_repair.specs.Settled.{IsSettled}
use Rattle.ml_repair.proofs.Edited.{OwnLaw}
use Rattle.ml_repair.proofs.Present.{length-labels}
use Rattle.ml_repair.proofs.Shapes.{low_rows}

-- what is read of rows, after one came in behind them
pub pushed_read : {A : Type 0} (read : Row → A) (boxes : List (Box Row Global)) (b : Box Row Global) → map read (unboxed (boxes ++ b ∷ [])) ≡ map read (unboxed boxes) ++ read b.value ∷ []
pushed_read read boxes b = ap (map read) (map-append box_value boxes (b ∷ [])) ∙ map-append read (unboxed boxes) (b.value ∷ [])

-- a row whose number is the next place is in turn
pub pushed_in_turn : (boxes : List (Box Row Global)) (b : Box Row Global) → AreInTurn (unboxed boxes) → b.value.number ≡ length boxes → AreInTurn (unboxed (boxes ++ b ∷ []))
pushed_in_turn boxes b turn its k lt =
    let rows = unboxed boxes in
    let many = length-map rows (λ (r : Row). r.number) in
    let same = length-map boxes box_value in
    let long = length-map (boxes ++ b ∷ []) box_value in
    let more = length-append boxes (b ∷ []) in
    rw (pushed_read (λ (t : Row). t.number) boxes b)
    (elim (cases_lt k (length rows)) [
      | inl low ↦ get_or-append (numbers_in rows) (b.value.number ∷ []) 0 k (omega arith) ∙ turn k low
      | inr high ↦ let e : k ≡ length (numbers_in rows) = omega arith in get_or_push (numbers_in rows) b.value.number 0 k (sym e) ∙ its ∙ omega arith
    ])

-- rows of labels with ids of their own have such ids
pub own_ids : (rows : List Row) (labels : List Label) → labels_in rows ≡ labels → IsLabelList labels → HaveOwnIds rows
own_ids rows labels are up i j d below within same =
    let many = length-map rows (λ (r : Row). r.label) in
    let long = ap length are in
    let read : (k : ℕ) → k < length rows → get_or labels k d.label ≡ (get_or rows k d).label =
    (λ k lt. ap (λ ls. get_or ls k d.label) (sym are) ∙ get_or-map (λ (r : Row). r.label) rows k d d.label lt) in
    (up i j d.label below (omega arith)).1 (ap (λ l. l.order.id) (read i (omega arith)) ∙ same ∙ ap (λ l. l.order.id) (sym (read j within)))

-- the slots so far, after a label came in with the next one
pub next_slots : (before after : List Row) (slots : List Slot) (slot : Slot) → length before < length slots → slot ≡ get_or slots (length before) slot →
    slots_in before ≡ take (length before) slots → slots_in after ≡ slots_in before ++ slot ∷ [] → slots_in after ≡ take (length after) slots
next_slots before after slots slot lt read so_far came =
    let one = length-map before (λ (r : Row). r.slot) in
    let more = length-map after (λ (r : Row). r.slot) in
    let long = ap length came ∙ length-append (slots_in before) (slot ∷ []) in
    let n : length after ≡ length before + 1 = omega arith in
    came ∙ ap (λ (ss : List Slot). ss ++ slot ∷ []) so_far ∙ ap (λ (s : Slot). take (length before) slots ++ s ∷ []) read
    ∙ sym (take_more slots (length before) slot lt) ∙ ap (λ (k : ℕ). take k slots) (sym n)

-- what is left to come in
module _ (rows : List Row) (rest : List Label) (label : Label) (labels : List Label) (coming : labels_in rows ++ reverse (rest ++ label ∷ []) ≡ labels) where
  -- once the next label stands behind the rows, they and the labels still to come are all labels again
  pub next_coming : (labels_in rows ++ label ∷ []) ++ reverse rest ≡ labels
  next_coming = append_assoc (labels_in rows) (label ∷ []) (reverse rest) ∙ ap (λ ls. labels_in rows ++ ls) (sym (reverse-append rest (label ∷ []))) ∙ coming

  -- while a label is still to come in, there are fewer rows than labels
  pub next_few : (n : ℕ) → length labels ≤ n → length rows < n
  next_few n few =
      let a = ap length next_coming in
      let b = length-append (labels_in rows ++ label ∷ []) (reverse rest) in
      let c = length-append (labels_in rows) (label ∷ []) in
      let d = length-labels rows in
      omega arith

-- a label has the same slot among the same rivals at the same places
abbrev pub LikeRivals : Type 0
LikeRivals = (low : Label) (rivals others : ℕ → Rival) (n : ℕ) → ((j : ℕ) → j < n → rivals j ≡ others j) →
    (slot : Slot) → IsOwnSlot rivals (λ j. j < n) low slot → IsOwnSlot others (λ j. j < n) low slot

-- slots are the longest choice under other numbers too, where these agree at the labels' places
pub numbered_alike : OwnLaw → LikeRivals → (one other : ℕ → ℕ) (labels : List Label) (slots : List Slot) →
    ((j : ℕ) → j < length labels → one j ≡ other j) → AreSlots one labels slots → AreSlots other labels slots
numbered_alike own_law like one other labels slots alike are =
    let own = (own_law one labels slots).1 are in
    (own_law other labels slots).0
    (record {
      one_slot = own.one_slot;
      own = λ d i lt.
          like (get_or labels i d) (row one labels slots d) (row other labels slots d) i
          (λ j less. ap (λ (n : ℕ). let r : Rival = record { number = n; label = get_or labels j d; until = (get_or slots j no_slot).until } in r) (alike j (omega arith)))
          (get_or slots i no_slot) (own.own d i lt);
    })

-- rows in turn with the slots of the longest choice are settled
pub in_turn_settled : OwnLaw → LikeRivals → (rows : List Row) (labels : List Label) (slots : List Slot) → length labels ≤ 32768 → AreInTurn rows →
    IsLabelList labels → labels_in rows ≡ labels → slots_in rows ≡ slots → AreSlots (λ j. j) labels slots → IsSettled rows
in_turn_settled own_law like rows labels slots few turn up are_labels are_slots are =
    let many = length-labels rows in
    let long = ap length are_labels in
    let numbered = numbered_in_turn rows (omega arith) turn in
    record {
      few = numbered.few;
      in_order = rw are_labels up;
      own_numbers = numbered.differ;
      low_numbers = low_rows rows numbered.low;
      slots = rw (are_labels, are_slots) (numbered_alike own_law like (λ j. j) (number_at rows) labels slots (λ j lt. sym (turn j (omega arith))) are);
    }
