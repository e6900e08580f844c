use Rattle.std.proofs.Common.{◌≡◌, arith, length}
use Rattle.ml_ratio.specs.Quotient.{worth}
use Rattle.ml_conflict.proofs.Evaluating.{Evaluated, evaluated_none, evaluated_kept, evaluated_set, evaluated_all}
use Rattle.ml_conflict.proofs.rivals.evaluate.Goals as goal
use Rattle.ml_conflict.proofs.rivals.evaluate.Goals.{then-is_less, else-is_less}

pub loop-k-init : goal.loop-k-init
loop-k-init g c =
    record {
      spent = c.tick.ensures;
      so_far = evaluated_none c.args.low.now (g.R.RivalList.rivals c.args.rivals.now) (worth c.of_ratio-end.result) (rw c.max.ensures at c.of_ratio-end.ensures.same);
    }

pub loop-k-preserved : goal.loop-k-preserved
loop-k-preserved g c =
    record {
      spent = c.loop-k.invariant.spent;
      so_far = elim c.if-is_less.branch [
        | then-is_less w ↦ rw (w.end-is, w.blocker-is) (evaluated_set c.args.low.now (g.R.RivalList.rivals c.args.rivals.now) c.loop-k.k
            (worth c.loop-k.end) c.loop-k.blocker c.label.result.now c.until.result c.label.ensures c.until.ensures c.loop-k.invariant.so_far
            (worth c.block-first.result) w.number.result w.number.ensures c.block-first.ensures w.if-is_less.ensures)
        | else-is_less w ↦ rw (w.end-is, w.blocker-is) (evaluated_kept c.args.low.now (g.R.RivalList.rivals c.args.rivals.now) c.loop-k.k
            (worth c.loop-k.end) c.loop-k.blocker c.label.result.now c.until.result c.label.ensures c.until.ensures c.loop-k.invariant.so_far
            (worth c.block-first.result) c.block-first.ensures w.if-is_less.ensures)
      ];
    }

pub returns-clause-own : goal.returns-clause-own
returns-clause-own g c =
    let last : c.loop-k.k ≡ length (g.R.RivalList.rivals c.args.rivals.now) = omega arith in
    let done : Evaluated c.args.low.now (g.R.RivalList.rivals c.args.rivals.now) (length (g.R.RivalList.rivals c.args.rivals.now)) (worth c.loop-k.end) c.loop-k.blocker =
    rw last at c.loop-k.invariant.so_far in
    evaluated_all c.args.low.now (g.R.RivalList.rivals c.args.rivals.now) (worth c.loop-k.end) (record { until = c.reduced.result; blocker = c.loop-k.blocker }) c.reduced.ensures.same done
