-- The stays of labels, and their lines, a label more at a time.
use Rattle.std.proofs.Common.{◌≡◌, ℕ, ◌+◌, ◌<◌, List, [], ◌∷◌, ◌++◌, length, get_or, take, arith, sym, ap, ◌∙◌, inl, inr, refl, append_assoc}
use Rattle.std.proofs.Math.ListN.{get_or-append}
use Rattle.std.proofs.Math.Seq.{get_or-append_seam}
use Rattle.std.proofs.lemmas.List.{append-nil, length-append, length-take, take_more, get_or_default}
use Rattle.std.proofs.lemmas.Bool.{cases_lt}
use Rattle.ml_cone.specs.Slots.{no_slot}
use Rattle.ml_cone.specs.declared.label.Label.{Label}
use Rattle.ml_cone.specs.declared.slot.Slot.{Slot}
use Rattle.ml_flight.specs.Shown.{IsShownAt}
use Rattle.ml_flight.specs.Stay.{AreApart}
use Rattle.ml_flight.specs.Stays.{AreMaximal}
use Rattle.ml_flight.specs.Timelines.{span_of}
use Rattle.ml_flight.specs.declared.stay.Stay.{Stay}
use Rattle.ml_flight.specs.declared.window.Window.{Window}
use Rattle.ml_command.specs.Zoom.{zoom_line, zoom_lines}

-- the stays of the first i labels
pub record AreFirstStays (labels : List Label) (slots : List Slot) (at : Window) (i : ℕ) (all : List (List Stay)) : Type 0 where
  pub count : length all ≡ i
  pub stays : (k : ℕ) (d : Label) → k < i →
      AreMaximal (IsShownAt (get_or labels k d) (span_of (get_or labels k d) (get_or slots k no_slot)) at) (get_or all k [])
  pub apart : (k : ℕ) → k < i → AreApart (get_or all k [])

module _ (labels : List Label) (slots : List Slot) (at : Window) where
  -- there are no stays of no labels
  pub no_stays : AreFirstStays labels slots at 0 []
  no_stays = record { count = refl; stays = λ k d less. absurd (omega arith); apart = λ k less. absurd (omega arith) }

  -- with the stays of the label at i, the stays of the first i labels are those of the first i + 1
  pub more_stays : (i : ℕ) (all : List (List Stay)) (label : Label) (slot : Slot) (its : List Stay) → AreFirstStays labels slots at i all → i < length labels → length slots ≡ length labels →
      label ≡ get_or labels i label → slot ≡ get_or slots i slot → AreMaximal (IsShownAt label (span_of label slot) at) its → AreApart its → AreFirstStays labels slots at (i + 1) (all ++ its ∷ [])
  more_stays i all label slot its first within one_each is_label is_slot maximal apart =
      record {
        count = let n = first.count in omega (arith, length-append all (its ∷ []));
        stays = λ k d less. elim (cases_lt k i) [
          | inl before ↦ let old : k < length all = (let n = first.count in omega arith) in
              rw (get_or-append all (its ∷ []) [] k old) (first.stays k d before)
          | inr after ↦ let same : k ≡ length all = (let n = first.count in omega arith) in
              last k d same
        ];
        apart = λ k less. elim (cases_lt k i) [
          | inl before ↦ let old : k < length all = (let n = first.count in omega arith) in
              rw (get_or-append all (its ∷ []) [] k old) (first.apart k before)
          | inr after ↦ let same : k ≡ length all = (let n = first.count in omega arith) in
              rw (same, get_or-append_seam all its [] []) apart
        ];
      }
    where
      last : (k : ℕ) (d : Label) → k ≡ length all → AreMaximal (IsShownAt (get_or labels k d) (span_of (get_or labels k d) (get_or slots k no_slot)) at) (get_or (all ++ its ∷ []) k [])
      last k d same =
          let here : k ≡ i = same ∙ first.count in
          let one : get_or labels i d ≡ label = get_or_default labels i d label within ∙ sym is_label in
          let other : get_or slots i no_slot ≡ slot = get_or_default slots i no_slot slot (rw one_each within) ∙ sym is_slot in
          rw (same, get_or-append_seam all its [] []) (rw (first.count, one, other) maximal)

-- the lines of labels, and one more
lines_push : (labels : List Label) (all : List (List Stay)) (label : Label) (its : List Stay) → length all ≡ length labels →
    zoom_lines (labels ++ label ∷ []) (all ++ its ∷ []) ≡ zoom_lines labels all ++ zoom_line label.order.id its
lines_push [] [] label its n = append-nil (zoom_line label.order.id its)
lines_push [] (s ∷ all) label its n = absurd (omega arith)
lines_push (l ∷ labels) [] label its n = absurd (omega arith)
lines_push (l ∷ labels) (s ∷ all) label its n =
    ap (λ (rest : List ℕ). zoom_line l.order.id s ++ rest) (lines_push labels all label its (omega arith))
    ∙ sym (append_assoc (zoom_line l.order.id s) (zoom_lines labels all) (zoom_line label.order.id its))

-- the zoom lines of the first i + 1 labels are those of the first i and that of the next label
pub lines_more : (labels : List Label) (all : List (List Stay)) (i : ℕ) (d : Label) (e : List Stay) → length all ≡ length labels → i < length labels →
    zoom_lines (take (i + 1) labels) (take (i + 1) all) ≡ zoom_lines (take i labels) (take i all) ++ zoom_line (get_or labels i d).order.id (get_or all i e)
lines_more labels all i d e n at =
    rw (take_more labels i d at, take_more all i e (omega arith))
    (lines_push (take i labels) (take i all) (get_or labels i d) (get_or all i e) (omega (arith, length-take i labels, length-take i all)))
