use Rattle.std.proofs.Common.{◌≡◌, ◌<◌, arith, ◌∙◌, ap, sym, length, get_or, List}
use Rattle.std.proofs.lemmas.List.{take_all}
use Rattle.std.proofs.lemmas.List.Sums.{fold_more}
use Rattle.std.specs.List.{fold}
use Rattle.ml_cone.specs.Hull.{join, no_reach, reach_of}
use Rattle.ml_cone.specs.Overlap.{widened}
use Rattle.ml_cone.specs.declared.label.BoxPx.{BoxPx}
use Rattle.ml_cone.proofs.reach.extent.Goals as goal

pub loop-p-preserved : goal.loop-p-preserved
loop-p-preserved c =
    let a = c.args.label.now in
    let i = c.loop-p.p-index in
    let low : i < length a.boxes = omega (arith, ap length c.as_slice-p-items.ensures) in
    let more = fold_more (λ all p. join all (widened a p)) no_reach a.boxes i no_reach low in
    let same : get_or c.as_slice-p-items.result.now i no_reach ≡ get_or a.boxes i no_reach = ap (λ (ps : List BoxPx). get_or ps i no_reach) c.as_slice-p-items.ensures in
    c.holding-all.ensures ∙ ap (λ (p : BoxPx). join c.loop-p.all (widened a p)) same ∙ ap (λ (q : BoxPx). join q (widened a (get_or a.boxes i no_reach))) c.loop-p.invariant ∙ sym more

pub returns : goal.returns
unfolding reach_of
returns c =
    let e = take_all c.loop-p.p-index c.args.label.now.boxes (omega (arith, ap length c.as_slice-p-items.ensures)) in
    c.loop-p.invariant ∙ ap (fold (λ all p. join all (widened c.args.label.now p)) no_reach) e
