use Rattle.std.proofs.Common.{arith, length, ap, ◌∙◌}
use Rattle.ml_ratio.specs.Quotient.{worth}
use Rattle.ml_conflict.specs.Between.{LiesIn}
use Rattle.ml_cone.specs.Overlap.{BoxesOverlap}
use Rattle.ml_conflict.proofs.Openness.{begins_like}
use Rattle.ml_conflict.proofs.Unions.{loop_none, loop_more, loop_all}
use Rattle.ml_conflict.proofs.begin.begin_row.Goals as goal

pub loop-q-init : goal.loop-q-init
loop-q-init c = loop_none (λ q s. BoxesOverlap c.args.low.now c.args.p.now c.args.high.now q s) c.args.high.now.boxes (worth c.args.start) (worth c.args.until) (worth c.args.best) c.requires.in_order

pub loop-q-preserved : goal.loop-q-preserved
loop-q-preserved c =
    loop_more (λ q s. BoxesOverlap c.args.low.now c.args.p.now c.args.high.now q s) c.args.high.now.boxes (worth c.args.start) (worth c.args.until) (worth c.args.best)
    _ c.loop-q.q-index _ (worth c.loop-q.first) (worth c.begin_one-first.result) (c.as_slice-q-items.ensures ∙ c.boxes.ensures) (omega arith) c.loop-q.invariant
    (begins_like (LiesIn worth c.boxes_interval.result) _ (worth c.args.start) (worth c.args.until) (worth c.loop-q.first)
    (worth c.begin_one-first.result) c.boxes_interval.ensures.scales c.begin_one-first.ensures)

pub returns : goal.returns
returns c =
    loop_all (λ q s. BoxesOverlap c.args.low.now c.args.p.now c.args.high.now q s) c.args.high.now.boxes (worth c.args.start) (worth c.args.until) (worth c.args.best)
    c.loop-q.q-index (worth c.loop-q.first) (omega (arith, ap length (c.as_slice-q-items.ensures ∙ c.boxes.ensures))) c.loop-q.invariant
