use Rattle.std.proofs.Common.{◌<◌, [], ℕ, List, Bor, ◌∙◌, ap, map, get_or, take, length, arith, pos}
use Rattle.std.proofs.lemmas.List.{take_more, get_or-map, length-map, map-append}
use Rattle.ml_cone.specs.declared.label.BoxPx.{BoxPx}
use Rattle.ml_pass.specs.Row.{ReadsBox}
use Rattle.ml_pass.proofs.RowLemmas.{zip_at, zip_push}
use Rattle.ml_pass.proofs.row.read_boxes.Goals as goal

pub returns-in-None : goal.returns-in-None
returns-in-None c boxes all =
    let none : Bor (List ℕ) = record { ref_ptr = (0, 0); now = [] } in
    let empty : BoxPx = record { l = pos 0; b = pos 0; r = pos 0; t = pos 0 } in
    let lt : c.loop-text.text-index < length (map (λ (p : Bor (List ℕ)). p.now) c.args.texts.now) = omega (arith, length-map c.args.texts.now (λ (p : Bor (List ℕ)). p.now)) in
    let here = zip_at ReadsBox (map (λ (p : Bor (List ℕ)). p.now) c.args.texts.now) boxes c.loop-text.text-index [] empty lt all in
    (rw c.in-None.is at c.in_ok-p.ensures) (get_or boxes c.loop-text.text-index empty)
    (rw (get_or-map (λ (p : Bor (List ℕ)). p.now) c.args.texts.now c.loop-text.text-index none [] (omega arith)) at here)

pub loop-text-preserved : goal.loop-text-preserved
loop-text-preserved c =
    let none : Bor (List ℕ) = record { ref_ptr = (0, 0); now = [] } in
    let more = take_more c.args.texts.now c.loop-text.text-index none (omega arith) in
    let shown = ap (map (λ (p : Bor (List ℕ)). p.now)) more ∙ map-append (λ (p : Bor (List ℕ)). p.now) (take c.loop-text.text-index c.args.texts.now) _ in
    rw (shown, c.in_ok-push-in-Some.ensures.ok) (zip_push ReadsBox _ c.loop-text.boxes _ c.in-Some.p c.loop-text.invariant (rw c.in-Some.is at c.in_ok-p.ensures))
