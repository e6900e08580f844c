use Rattle.std.specs.Prelude.{ℕ, ◌<◌, List, [], ◌∷◌, ◌++◌, length, map, slice_index_or, Option, Some, None, MatchOption, codes}
use Rattle.ml_ratio.specs.Ratio.{ratio_text}
use Rattle.ml_ratio.specs.declared.ratio.Ratio.{Ratio}
use Rattle.ml_cone.specs.declared.label.Label.{Label}
use Rattle.ml_cone.specs.declared.slot.Slot.{Slot}

-- the ids of labels, in order
abbrev pub ids : List Label → List (List ℕ)
ids labels = map (λ label. label.order.id) labels

-- the blocker, if any, is the place of a label
abbrev pub IsBlockerPlace : List Label → Option ℕ → Type 0
IsBlockerPlace labels blocker = MatchOption blocker (Unit {0}) (λ j. j < length labels)

-- a blocker's id, and a minus where there is none
abbrev pub blocker_name : List (List ℕ) → Option ℕ → List ℕ
blocker_name ids None = codes "-"
blocker_name ids (Some j) = slice_index_or ids j []

-- a line: id, end and blocker with one space between, and LF
abbrev pub slot_line : List ℕ → Ratio → List ℕ → List ℕ
slot_line id until blocker = id ++ codes " " ++ ratio_text until ++ codes " " ++ blocker ++ codes "\n"

-- a line for each of some labels; blockers are places in `all`
abbrev pub slot_lines : List (List ℕ) → List Label → List Slot → List ℕ
slot_lines all [] slots = []
slot_lines all (label ∷ labels) [] = []
slot_lines all (label ∷ labels) (slot ∷ slots) = slot_line label.order.id slot.until (blocker_name all slot.blocker) ++ slot_lines all labels slots

-- the text of the slots of all labels
abbrev pub slots_text : List Label → List Slot → List ℕ
slots_text labels slots = slot_lines (ids labels) labels slots
