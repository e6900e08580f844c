-- The data of a view, and its text.
use Rattle.std.specs.Prelude.{ℕ, Bool, true, false, List, [], ◌∷◌, ◌++◌, codes, map}
use Rattle.std.specs.List.{concat}
use Rattle.serde_json.specs.Data.{Data, string, array, object, member, no_members}
use Rattle.serde_json.specs.View.{items_of}
use Rattle.serde_json.specs.Written.{comma_if, compact_text}
use Rattle.ml_ratio.specs.Ratio.{ratio_text}
use Rattle.ml_ratio.specs.declared.ratio.Ratio.{Ratio}
use Rattle.ml_cone.specs.declared.label.Label.{Label}
use Rattle.ml_answer.specs.Values.{numbers, boxes_data}

-- a label: its anchor, its boxes, its id, the text of its pieces, and the scale from which on it is not shown
abbrev pub shown_data : Label → Ratio → Data
shown_data label until =
    object (member (codes "at") (numbers (label.x ∷ label.y ∷ []))
    (member (codes "boxes") (boxes_data label.boxes)
    (member (codes "id") (string label.order.id)
    (member (codes "text") (string (concat label.pieces))
    (member (codes "until") (string (ratio_text until)) no_members)))))

-- the text of a label, with no space
abbrev pub shown_text : Label → Ratio → List ℕ
shown_text label until = compact_text (shown_data label until)

-- a label that a view shows, and the scale from which on it is not shown any more
pub record Shown : Type 0 where
  pub label : Label
  pub until : Ratio

-- a view: its labels, and its scale
abbrev pub view_data : Ratio → List Shown → Data
view_data scale labels =
    object (member (codes "labels") (array (items_of (map (λ shown. shown_data shown.label shown.until) labels)))
    (member (codes "scale") (string (ratio_text scale)) no_members))

-- the text of a view, with no space
abbrev pub view_text : Ratio → List Shown → List ℕ
view_text scale labels = compact_text (view_data scale labels)

-- a view whose labels are still being added: its scale, its text so far, and whether it has a label
pub record JsonViewState : Type 0 where
  pub scale : Ratio
  pub text : List ℕ
  pub later : Bool

-- a view to which no label was added yet
abbrev pub no_label : Ratio → JsonViewState
no_label scale = record { scale = scale; text = codes "{\"labels\":["; later = false }

-- a view with one more label, behind a comma where it has others
abbrev pub with_label : JsonViewState → Label → Ratio → JsonViewState
with_label state label until =
    record { scale = state.scale; text = state.text ++ (comma_if state.later ++ shown_text label until); later = true }

-- what stands behind the labels of a view
abbrev pub view_end : Ratio → List ℕ
view_end scale = codes "],\"scale\":" ++ (compact_text (string (ratio_text scale)) ++ codes "}")

-- a view with more labels, in their order
abbrev pub with_labels : JsonViewState → List Shown → JsonViewState
with_labels state [] = state
with_labels state (shown ∷ labels) = with_labels (with_label state shown.label shown.until) labels
