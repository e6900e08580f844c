use Rattle.std.proofs.Common.{◌∙◌, ap, ap₂, ◌++◌, ◌∷◌, [], ℕ, List, flat_map}
use Rattle.ml_cone.specs.declared.label.BoxPx.{BoxPx}
use Rattle.ml_watch.specs.Line.{id_text}
use Rattle.ml_follow.specs.StateText.{box_text}
use Rattle.ml_follow.proofs.Texts.{row_made}
use Rattle.ml_follow.proofs.line.row_line.Goals as goal

pub returns : goal.returns
returns c =
    let id = c.into_vec-line.ensures ∙ c.in_ok-id.ensures ∙ ap id_text c.id.ensures in
    let words = c.as_bytes.ensures.value ∙ c.in_ok-words.ensures in
    let boxes = c.as_slice.ensures ∙ c.boxes.ensures in
    let front = c.in_ok-extend_from_slice.ensures.items ∙ ap₂ (λ (a b : List ℕ). a ++ b) id words in
    let middle = c.in_ok-push_boxes.ensures ∙ ap₂ (λ (a : List ℕ) (ps : List BoxPx). a ++ flat_map (λ (p : BoxPx). 32 ∷ box_text p) ps) front boxes in
    c.in_ok-extend_from_slice-2.ensures.items ∙ ap (λ (t : List ℕ). t ++ 10 ∷ []) middle ∙ row_made c.args.label.now c.args.slot
