-- The texts of a label that a view shows, of an edit and of a revision, part by part; for private clauses.
use Rattle.std.specs.Prelude.{ℕ, ℤ, Bool, true, false, List, [], ◌∷◌, ◌++◌, codes, map}
use Rattle.std.specs.Fmt.{decimal}
use Rattle.std.specs.List.{concat}
use Rattle.serde_json.specs.Data.{number, string}
use Rattle.serde_json.specs.Find.{of_integer}
use Rattle.serde_json.specs.View.{items_of}
use Rattle.serde_json.specs.Written.{comma_if, compact_text, items_text}
use Rattle.ml_ratio.specs.Ratio.{ratio_text}
use Rattle.ml_ratio.specs.declared.ratio.Ratio.{Ratio}
use Rattle.ml_cone.specs.declared.label.BoxPx.{BoxPx}
use Rattle.ml_cone.specs.declared.label.Label.{Label}
use Rattle.ml_cone.specs.declared.slot.Span.{Span}
use Rattle.ml_watch.specs.declared.change.Change.{Change}
use Rattle.ml_answer.specs.Edit.{span_data, change_data}

-- two whole numbers
abbrev pub pair_text : ℤ → ℤ → List ℕ
pair_text one other = compact_text (number (of_integer one)) ++ (codes "," ++ compact_text (number (of_integer other)))

-- the sides of a box, and the box
abbrev pub sides_text : BoxPx → List ℕ
sides_text p = pair_text p.l p.b ++ (codes "," ++ pair_text p.r p.t)

abbrev pub box_text : BoxPx → List ℕ
box_text p = codes "[" ++ (sides_text p ++ codes "]")

-- boxes, behind others or not, with the end of their list
abbrev pub boxes_text : Bool → List BoxPx → List ℕ
boxes_text later [] = codes "]"
boxes_text later (p ∷ boxes) = comma_if later ++ (box_text p ++ boxes_text true boxes)

-- what stands before the boxes
abbrev pub anchor_text : Label → List ℕ
anchor_text label = codes "{\"at\":[" ++ (pair_text label.x label.y ++ codes "],\"boxes\":[")

-- what stands behind them
abbrev pub pieces_text : Label → List ℕ
pieces_text label = codes ",\"text\":" ++ compact_text (string (concat label.pieces))

abbrev pub names_text : Label → List ℕ
names_text label = codes ",\"id\":" ++ (compact_text (string label.order.id) ++ pieces_text label)

abbrev pub until_text : Ratio → List ℕ
until_text until = codes ",\"until\":" ++ (compact_text (string (ratio_text until)) ++ codes "}")

-- all of it
abbrev pub label_text : Label → Ratio → List ℕ
label_text label until = anchor_text label ++ (boxes_text false label.boxes ++ (names_text label ++ until_text until))

-- a span, with where it begins and where it ends
abbrev pub ends_text : Span → List ℕ
ends_text span =
    codes "[" ++ (compact_text (string (ratio_text span.min)) ++ (codes "," ++ (compact_text (string (ratio_text span.until)) ++ codes "]")))

-- what stands before the id of a change
abbrev pub spans_text : Change → List ℕ
spans_text change =
    codes "{\"after\":" ++ (compact_text (span_data change.after) ++ (codes ",\"before\":" ++ compact_text (span_data change.before)))

-- a change
abbrev pub change_text : Change → List ℕ
change_text change = spans_text change ++ (codes ",\"id\":" ++ (compact_text (string change.id) ++ codes "}"))

-- the number of a revision, and the end
abbrev pub rev_end : ℕ → List ℕ
rev_end rev = codes ",\"rev\":" ++ (decimal rev ++ codes "}")

-- an edit
abbrev pub edit_layout : ℕ → List Change → List ℕ
edit_layout rev changes = codes "{\"changes\":[" ++ (items_text false (items_of (map change_data changes)) ++ rev_end rev)

-- a revision
abbrev pub rev_layout : ℕ → ℕ → ℕ → List ℕ
rev_layout rev features labels =
    codes "{\"features\":" ++ (decimal features ++ (codes ",\"labels\":" ++ (decimal labels ++ rev_end rev)))
