use Rattle.std.proofs.Common.{arith, length, ap, ◌∙◌}
use Rattle.ml_ratio.specs.Quotient.{worth}
use Rattle.ml_cone.specs.Overlap.{BoxOverlaps, Overlap}
use Rattle.ml_conflict.proofs.Unions.{loop_none, loop_more, loop_all}
use Rattle.ml_conflict.proofs.begin.begin_all.Goals as goal

pub loop-p-init : goal.loop-p-init
loop-p-init c = loop_none (λ p s. BoxOverlaps c.args.low.now p c.args.high.now s) c.args.low.now.boxes (worth c.args.start) (worth c.args.until) (worth c.args.best) c.requires

pub loop-p-preserved : goal.loop-p-preserved
loop-p-preserved c =
    loop_more (λ p s. BoxOverlaps c.args.low.now p c.args.high.now s) c.args.low.now.boxes (worth c.args.start) (worth c.args.until) (worth c.args.best)
    _ c.loop-p.p-index _ (worth c.loop-p.first) (worth c.begin_row-first.result) (c.as_slice-p-items.ensures ∙ c.boxes.ensures) (omega arith) c.loop-p.invariant c.begin_row-first.ensures

pub returns : goal.returns
unfolding Overlap
returns c =
    loop_all (λ p s. BoxOverlaps c.args.low.now p c.args.high.now s) c.args.low.now.boxes (worth c.args.start) (worth c.args.until) (worth c.args.best)
    c.loop-p.p-index (worth c.loop-p.first) (omega (arith, ap length (c.as_slice-p-items.ensures ∙ c.boxes.ensures))) c.loop-p.invariant
