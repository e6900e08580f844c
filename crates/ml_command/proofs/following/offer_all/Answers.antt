use Rattle.std.proofs.Common.{◌≡◌, List, ◌∷◌, ◌∙◌}
use Rattle.std.specs.Vec.Iter.{into_iter_items}
use Rattle.std.proofs.lemmas.List.Elements.{All-tail}
use Rattle.ml_follow.specs.Reading.{IsGood}
use Rattle.ml_follow.specs.declared.state.State.{State}
use Rattle.ml_command.proofs.FollowLemmas.{at_start, next_turn, halted_at}
use Rattle.ml_command.proofs.following.offer_all.Goals as goal

pub loop-state-init : goal.loop-state-init
loop-state-init g c =
    let are : into_iter_items c.into_iter-state-iterator.result ≡ c.args.states = c.into_iter-state-iterator.ensures.into_iter_gives.0 ∙ c.into_vec-state-items.ensures in
    record {
      good = rw are c.requires.good;
      so_far = rw are (at_start g.W.Watcher.hearing c.args.follower.now c.args.states c.args.crowd.now
          (g.K.Sink.written c.args.out.now) (g.K.Sink.faults c.args.out.now) (c.hear_nothing.ensures c.args.crowd.now));
    }

pub loop-state-preserved-then-all : goal.loop-state-preserved-then-all
loop-state-preserved-then-all g c =
    let rest : List State = into_iter_items c.next.new.self in
    let steps : into_iter_items c.loop-state.state-iterator ≡ c.in-Some.state ∷ rest = c.in-Some.ensures.steps.0 in
    let good = rw steps at c.loop-state.invariant.good in
    let so_far = rw steps at c.loop-state.invariant.so_far in
    let more = next_turn g.W.Watcher.hearing c.hear_twice.ensures c.args.follower.now c.args.states c.in-Some.state rest _ _ _ _ _ _ _ _ so_far _ _ _
    (g.K.Sink.faults c.offer.new.out) c.in-Ok.adopted c.in-Ok.ensures.turn in
    record {
      good = All-tail IsGood c.in-Some.state rest good;
      so_far = rw c.if-all.true at more;
    }

pub loop-state-preserved : goal.loop-state-preserved
loop-state-preserved g c =
    let rest : List State = into_iter_items c.next.new.self in
    let steps : into_iter_items c.loop-state.state-iterator ≡ c.in-Some.state ∷ rest = c.in-Some.ensures.steps.0 in
    let good = rw steps at c.loop-state.invariant.good in
    let so_far = rw steps at c.loop-state.invariant.so_far in
    let more = next_turn g.W.Watcher.hearing c.hear_twice.ensures c.args.follower.now c.args.states c.in-Some.state rest _ _ _ _ _ _ _ _ so_far _ _ _
    (g.K.Sink.faults c.offer.new.out) c.in-Ok.adopted c.in-Ok.ensures.turn in
    record {
      good = All-tail IsGood c.in-Some.state rest good;
      so_far = rw c.if-all.false (rw c.if-all.false at more);
    }

pub returns-in-Err-clause-offered : goal.returns-in-Err-clause-offered
returns-in-Err-clause-offered g c =
    let rest : List State = into_iter_items c.next.new.self in
    let steps : into_iter_items c.loop-state.state-iterator ≡ c.in-Some.state ∷ rest = c.in-Some.ensures.steps.0 in
    let so_far = rw steps at c.loop-state.invariant.so_far in
    halted_at g.W.Watcher.hearing c.hear_twice.ensures c.args.follower.now c.args.states c.in-Some.state rest _ _ _ _ _ _ _ _ so_far _ _ _ _ c.in-Err.halt c.in-Err.ensures.turn
