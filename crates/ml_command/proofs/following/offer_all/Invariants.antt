use Rattle.std.specs.Prelude.{All}
use Rattle.std.specs.Vec.Iter.{into_iter_items}
use Rattle.ml_follow.specs.Reading.{IsGood}
use Rattle.ml_command.proofs.FollowLemmas.{SoFar}
use Rattle.ml_command.proofs.following.offer_all.Given as goal

abbrev pub invariant-loop-state : goal.invariant-loop-state
invariant-loop-state g l = record {
  good : All IsGood (into_iter_items l.state-iterator);
  so_far : SoFar g.W.Watcher.hearing l.fn.follower l.fn.states (into_iter_items l.state-iterator) l.follower l.fn.crowd l.crowd
      (g.K.Sink.written l.fn.out) (g.K.Sink.written l.out) (g.K.Sink.faults l.fn.out) (g.K.Sink.faults l.out) l.all;
}
