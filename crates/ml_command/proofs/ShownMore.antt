-- What is left to show, one place further on.
use Rattle.std.proofs.Common.{◌≡◌, ℕ, ◌+◌, ◌<◌, List, ◌∷◌, length, get_or, drop, Some, refl, ◌∙◌, ap}
use Rattle.std.specs.List.{cons_option, filter_map}
use Rattle.std.proofs.lemmas.List.{drop_more, get_or_default}
use Rattle.std.proofs.lemmas.Option.{slice_get_read}
use Rattle.ml_cone.specs.Slots.{no_slot}
use Rattle.ml_cone.specs.declared.label.Label.{Label}
use Rattle.ml_cone.specs.declared.slot.Slot.{Slot}
use Rattle.ml_command.specs.ViewLine.{shown_at}

module _ (labels : List Label) (slots : List Slot) (one_each : length slots ≡ length labels) (label : Label) (slot : Slot) where
  -- what stands at a place of a label; the slot stands for what lies past the end
  shown_there : (i : ℕ) → i < length labels → label ≡ get_or labels i label → shown_at labels slots i ≡ Some (record { label = label; until = (get_or slots i slot).until })
  shown_there i within is =
      rw (slice_get_read labels (length labels) i label refl within is, get_or_default slots i no_slot slot (rw one_each within)) refl

  -- from the k-th place on there is left to show the label there, until its slot ends, and what is left from the next place on
  pub shown_more : (places : List ℕ) (k : ℕ) → k < length places → get_or places k 0 < length labels → label ≡ get_or labels (get_or places k 0) label →
      filter_map (shown_at labels slots) (drop k places) ≡ record { label = label; until = (get_or slots (get_or places k 0) slot).until } ∷ filter_map (shown_at labels slots) (drop (k + 1) places)
  shown_more places k left within is =
      let rest = filter_map (shown_at labels slots) (drop (k + 1) places) in
      ap (filter_map (shown_at labels slots)) (drop_more places k 0 left) ∙ ap (λ o. cons_option o rest) (shown_there (get_or places k 0) within is)
