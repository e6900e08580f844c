-- What a view shows of the live labels.
use Rattle.std.specs.Prelude.{ℕ, ◌≡◌, ◌≢◌, ◌<◌, List, length, map, slice_index_or, Contains}
use Rattle.ml_ratio.specs.Fraction.{value_of}
use Rattle.ml_cone.specs.Overlap.{Overlap}
use Rattle.ml_cone.specs.Shown.{AreShown, IsShown}
use Rattle.ml_cone.specs.Slots.{ends, no_slot}
use Rattle.ml_cone.specs.declared.label.Label.{Label}
use Rattle.ml_cone.specs.declared.slot.Slot.{Slot}
use Rattle.ml_cone.specs.declared.view.View.{View}
use Rattle.ml_grid.specs.Near.{IsNear}
use Rattle.ml_store.specs.Rows.{labels_in, slots_in, number_at}
use Rattle.ml_store.specs.declared.row.Row.{Row}
use Rattle.ml_repair.specs.Size.{IsSize}

-- the numbers of the labels that the view shows, in priority order
pub record AreShownNumbers (rows : List Row) (view : View) (numbers : List ℕ) : Type 0 where
  pub places : List ℕ
  pub shown : AreShown (labels_in rows) (ends (slots_in rows)) view places
  pub numbers_are : numbers ≡ map (number_at rows) places

-- no two labels with different ones of these numbers overlap at the view's scale
abbrev pub AreApart : List Row → View → List ℕ → Type 0
AreApart rows view numbers =
    (a b : Row) → Contains rows a → Contains rows b → Contains numbers a.number → Contains numbers b.number → a.number ≢ b.number →
    ¬ (Overlap a.label b.label (value_of view.scale))

-- the label at i is near the view
abbrev pub IsNearAt : List Label → List Slot → View → ℕ → Type 0
IsNearAt labels slots view i = (i < length labels) × ((d : Label) → IsNear (slice_index_or labels i d) (slice_index_or slots i no_slot).until view)

-- n labels are near the view
abbrev pub AreNear : List Label → List Slot → View → ℕ → Type 0
AreNear labels slots view n = IsSize (IsNearAt labels slots view) n

-- the row at a place is shown
abbrev pub IsShownIn : List Row → View → ℕ → Type 0
IsShownIn rows view p = IsShown (labels_in rows) (ends (slots_in rows)) view p
