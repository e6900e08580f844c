-- A view to which labels were added one by one is the view of them all.
use Rattle.std.proofs.Common.{◌≡◌, ℕ, List, [], ◌∷◌, ◌++◌, map, refl, ap, ◌∙◌, append_assoc}
use Rattle.std.specs.Prelude.{codes}
use Rattle.serde_json.specs.Data.{string}
use Rattle.serde_json.specs.View.{items_of}
use Rattle.serde_json.proofs.OnLiterals.{serde_json_on_literals}
use Rattle.serde_json.specs.Written.{compact_text, items_text}
use Rattle.ml_ratio.specs.Ratio.{ratio_text}
use Rattle.ml_ratio.specs.declared.ratio.Ratio.{Ratio}
use Rattle.ml_answer.specs.View.{Shown, JsonViewState, shown_data, view_text, no_label, with_label, with_labels, view_end}

-- the labels and the end of their list are the items of a list
labels_are_items : (labels : List Shown) (state : JsonViewState) (rest : List ℕ)
    → (with_labels state labels).text ++ (93 ∷ rest) ≡ state.text ++ (items_text state.later (items_of (map (λ shown. shown_data shown.label shown.until) labels)) ++ rest)
labels_are_items [] state rest = refl
labels_are_items (shown ∷ labels) state rest =
    labels_are_items labels (with_label state shown.label shown.until) rest ∙ simp append_assoc

-- the text of a view that was fed with labels, and what stands behind them, is the text of its data
written_scale : (scale : Ratio) (labels : List Shown) → (with_labels (no_label scale) labels).text ++ view_end scale ≡ view_text scale labels
unfolding serde_json_on_literals
written_scale scale labels =
    labels_are_items labels (no_label scale) (44 ∷ (codes "\"scale\":" ++ (compact_text (string (ratio_text scale)) ++ codes "}")))

-- a view keeps its scale
scale_stays : (labels : List Shown) (state : JsonViewState) → (with_labels state labels).scale ≡ state.scale
scale_stays [] state = refl
scale_stays (shown ∷ labels) state = scale_stays labels (with_label state shown.label shown.until)

-- so it is for the view's own scale
pub view_whole : (state : JsonViewState) (scale : Ratio) (labels : List Shown) → state ≡ with_labels (no_label scale) labels → state.text ++ view_end state.scale ≡ view_text scale labels
view_whole state scale labels added =
    ap (λ (s : JsonViewState). s.text ++ view_end s.scale) added
    ∙ (ap (λ (r : Ratio). (with_labels (no_label scale) labels).text ++ view_end r) (scale_stays labels (no_label scale)) ∙ written_scale scale labels)
