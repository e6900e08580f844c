use Rattle.std.specs.Prelude.{ℕ, ◌≡◌, ◌<◌, List, [], length, slice_index_or}
use Rattle.ml_cone.specs.Slots.{no_slot}
use Rattle.ml_cone.specs.declared.label.Label.{Label}
use Rattle.ml_cone.specs.declared.slot.Slot.{Slot}
use Rattle.ml_cone.specs.declared.slot.Span.{Span}
use Rattle.ml_flight.specs.Shown.{IsShownAt}
use Rattle.ml_flight.specs.Stays.{AreMaximal}
use Rattle.ml_flight.specs.declared.stay.Stay.{Stay}
use Rattle.ml_flight.specs.declared.window.Window.{Window}

-- the range in which a label with this slot is active: from its minimum until the slot's end
abbrev pub span_of : Label → Slot → Span
span_of label slot = record { min = label.min; until = slot.until }

-- for each label with its slot, its stays in the window
pub record AreTimelines (labels : List Label) (slots : List Slot) (at : Window) (all : List (List Stay)) : Type 0 where
  pub one_each : length all ≡ length labels
  pub stays : (i : ℕ) (d : Label) → i < length labels →
      AreMaximal (IsShownAt (slice_index_or labels i d) (span_of (slice_index_or labels i d) (slice_index_or slots i no_slot)) at) (slice_index_or all i [])
