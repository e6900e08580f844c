use Rattle.std.proofs.Common.{arith, ◌∙◌}
use Rattle.ml_watch.proofs.Hearings.{hears_front, hears_cut, grew_one}
use Rattle.ml_watch.proofs.crowd.tell_one.Goals as goal

pub returns-then-faults-gt0 : goal.returns-then-faults-gt0
returns-then-faults-gt0 g c =
    hears_front g.W.Watcher.hearing _ _ c.args.changes.now c.loop-change.change-index c.loop-change.invariant.grew
    c.loop-change.invariant.same c.loop-change.invariant.silent (omega (arith, c.if-faults-gt0.true, c.faults.ensures))

pub returns-in-Err : goal.returns-in-Err
returns-in-Err g c =
    hears_cut g.W.Watcher.hearing _ _ _ c.args.changes.now c.loop-change.change-index _ c.change-item.result c.loop-change-test.true c.loop-change.invariant.grew c.loop-change.invariant.same
    (omega (arith, c.if-faults-gt0.false, c.faults.ensures)) (rw c.change-item.is at c.in-Err.ensures.err.1) (omega (arith, c.in-Err.ensures.cause))

pub loop-change-preserved : goal.loop-change-preserved
loop-change-preserved g c = record {
  grew = grew_one _ _ _ c.args.changes.now c.loop-change.change-index c.change-item.result c.loop-change-test.true c.loop-change.invariant.grew (rw c.change-item.is at c.in-Ok.ensures.ok.0);
  same = c.in-Ok.ensures.ok.1 ∙ c.loop-change.invariant.same;
  silent = λ some. absurd (omega (arith, some, c.loop-change.invariant.same, c.if-faults-gt0.false, c.faults.ensures));
}
