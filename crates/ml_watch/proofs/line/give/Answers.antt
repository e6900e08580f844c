use Rattle.std.proofs.Common.{arith, ◌∙◌}
use Rattle.ml_watch.proofs.Putting.{held_given, grows_more}
use Rattle.ml_watch.proofs.line.give.Goals as goal

pub loop-sink-preserved : goal.loop-sink-preserved
loop-sink-preserved g c =
    let put = rw c.as_slice.ensures at c.in_ok-count.ensures.ok in
    record {
      same = rw c.drop_front.ensures (held_given _ _ c.loop-sink.held c.in_ok-count.count put ∙ c.loop-sink.invariant.same);
      grows = grows_more _ _ _ _ c.loop-sink.invariant.grows put;
      calm = c.in_ok-count.ensures.cause.some (omega (arith, c.if-count-eq0.false)) ∙ c.loop-sink.invariant.calm;
    }
