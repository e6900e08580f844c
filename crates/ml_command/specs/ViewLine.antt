-- The line of a view.
use Rattle.std.specs.Prelude.{ℕ, List, ◌++◌, codes, Option, slice_get, slice_index_or}
use Rattle.std.specs.Option.{option_map}
use Rattle.std.specs.List.{filter_map}
use Rattle.ml_ratio.specs.declared.ratio.Ratio.{Ratio}
use Rattle.ml_cone.specs.Slots.{no_slot}
use Rattle.ml_cone.specs.declared.label.Label.{Label}
use Rattle.ml_cone.specs.declared.slot.Slot.{Slot}
use Rattle.ml_answer.specs.View.{Shown, view_text}

-- the label at a place with the end of its slot, if there is one
abbrev pub shown_at : List Label → List Slot → ℕ → Option Shown
shown_at labels slots i =
    option_map (λ label. record { label = label; until = (slice_index_or slots i no_slot).until }) (slice_get labels i)

-- the text of a view of the labels at some places, in that order, and the end of the line
abbrev pub view_line : List Label → List Slot → List ℕ → Ratio → List ℕ
view_line labels slots places scale = view_text scale (filter_map (shown_at labels slots) places) ++ codes "\n"
