-- The text of a state.
use Rattle.std.specs.Prelude.{ℕ, ℤ, List, [], ◌∷◌, ◌++◌, length, map, flat_map, Option, Some, None, codes}
use Rattle.std.specs.Fmt.{decimal, signed_decimal}
use Rattle.ml_ratio.specs.Ratio.{ratio_text}
use Rattle.ml_cone.specs.declared.label.BoxPx.{BoxPx}
use Rattle.ml_cone.specs.declared.label.Label.{Label}
use Rattle.ml_cone.specs.declared.slot.Slot.{Slot}
use Rattle.ml_watch.specs.Line.{id_text}

-- words with a separator between
abbrev pub joined : ℕ → List (List ℕ) → List ℕ
joined separator [] = []
joined separator (word ∷ rest) = word ++ flat_map (λ next. separator ∷ next) rest

-- a line: words with one space between, and LF
abbrev pub line_of : List (List ℕ) → List ℕ
line_of words = joined 32 words ++ codes "\n"

-- a box: left, bottom, right and top with commas between
abbrev pub box_text : BoxPx → List ℕ
box_text p = signed_decimal p.l ++ (codes "," ++ (signed_decimal p.b ++ (codes "," ++ (signed_decimal p.r ++ (codes "," ++ signed_decimal p.t)))))

-- a blocker: its place, or a minus where there is none
abbrev pub blocker_text : Option ℕ → List ℕ
blocker_text None = codes "-"
blocker_text (Some place) = decimal place

-- the words of an anchor and a selectable range, each behind a blank
unfoldable pub place_words : ℤ → ℤ → List ℕ → List ℕ → List ℕ
place_words x y min max = codes " " ++ (signed_decimal x ++ (codes " " ++ (signed_decimal y ++ (codes " " ++ (min ++ (codes " " ++ max))))))

-- the words of a margin, an end and a blocker, each behind a blank
unfoldable pub end_words : ℕ → List ℕ → List ℕ → List ℕ
end_words margin until blocker = codes " " ++ (decimal margin ++ (codes " " ++ (until ++ (codes " " ++ blocker))))

-- those of a label with its slot
abbrev pub row_words : Label → Slot → List ℕ
row_words label slot =
    place_words label.x label.y (ratio_text label.min) (ratio_text label.max) ++ end_words label.margin (ratio_text slot.until) (blocker_text slot.blocker)

-- the line of a label with its slot
abbrev pub row_line : Label → Slot → List ℕ
row_line label slot =
    line_of (id_text label.order.id ∷ signed_decimal label.x ∷ signed_decimal label.y ∷ ratio_text label.min ∷ ratio_text label.max
    ∷ decimal label.margin ∷ ratio_text slot.until ∷ blocker_text slot.blocker ∷ map box_text label.boxes)

-- a line for each of some labels
abbrev pub row_lines : List Label → List Slot → List ℕ
row_lines [] slots = []
row_lines (label ∷ labels) [] = []
row_lines (label ∷ labels) (slot ∷ slots) = row_line label slot ++ row_lines labels slots

-- the first line: the revision and the number of labels
abbrev pub head_line : ℕ → ℕ → List ℕ
head_line rev count = codes "state " ++ (decimal rev ++ (codes " " ++ (decimal count ++ codes "\n")))

-- the text of the first labels of a state that will have `count` of them
abbrev pub begun_text : ℕ → ℕ → List Label → List Slot → List ℕ
begun_text rev count labels slots = head_line rev count ++ row_lines labels slots

-- the text of a state: the revision, the labels in order, and a slot for each
abbrev pub state_text : ℕ → List Label → List Slot → List ℕ
state_text rev labels slots = begun_text rev (length labels) labels slots
