-- The blockers of the longest choice are places of labels, as the writer of slots asks.
use Rattle.std.proofs.Common.{ℕ, ◌<◌, List, [], ◌∷◌, length, get_or, Option, Some, None, arith}
use Rattle.std.specs.Prelude.{All}
use Rattle.std.proofs.lemmas.List.{get_or_default}
use Rattle.ml_cone.specs.Slots.{AreSlots, IsBlockerBy, ends, no_slot}
use Rattle.ml_cone.specs.declared.label.Label.{Label}
use Rattle.ml_cone.specs.declared.slot.Slot.{Slot}
use Rattle.ml_pass.specs.SlotsText.{IsBlockerPlace}

placed_from : (labels : List Label) (slots : List Slot) (i : ℕ) (blocker : Option ℕ) → i < length labels → IsBlockerBy (λ j. j) labels (ends slots) i blocker → IsBlockerPlace labels blocker
placed_from labels slots i None lt h = tt
placed_from [] slots i (Some n) lt h = absurd (omega arith)
placed_from (label ∷ labels) slots i (Some n) lt h = (let e = h.1 in let before = (h.2 label).0 in omega arith)

-- each blocker of the longest choice is the place of a label
pub blockers_placed : (labels : List Label) (slots : List Slot) → AreSlots (λ j. j) labels slots → All (λ slot. IsBlockerPlace labels slot.blocker) slots
blockers_placed labels slots are k d lt =
    let one = are.one_slot in
    let in' : k < length labels = omega arith in
    rw (get_or_default slots k d no_slot lt) (placed_from labels slots k (get_or slots k no_slot).blocker in' (are.blockers k in'))
