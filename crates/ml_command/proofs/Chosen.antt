-- What the longest choice of a table gives to the calls that print it.
use Rattle.std.proofs.Common.{ℕ, ◌<◌, List, length}
use Rattle.std.specs.Prelude.{All}
use Rattle.std.proofs.lemmas.List.{get_or_default}
use Rattle.ml_cone.specs.Slots.{ends}
use Rattle.ml_cone.specs.Shown.{AreShown}
use Rattle.ml_cone.specs.declared.label.Label.{Label}
use Rattle.ml_cone.specs.declared.slot.Slot.{Slot}
use Rattle.ml_cone.specs.declared.view.View.{View}

-- the places of shown labels are places of labels
pub shown_placed : (labels : List Label) (slots : List Slot) (v : View) (places : List ℕ) → AreShown labels (ends slots) v places → All (λ place. place < length labels) places
shown_placed labels slots v places shown k d lt = rw (get_or_default places k 0 d lt) at (shown.sound k lt).0
