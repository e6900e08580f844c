use Rattle.ml_command.proofs.FollowEnds.{done, halted_early, halted_late}
use Rattle.ml_command.proofs.following.follow.Goals as goal

pub returns-in-Err-clause-followed : goal.returns-in-Err-clause-followed
returns-in-Err-clause-followed g c =
    rw c.halted.ensures (halted_early g.W.Watcher.hearing c.args.states _ _ _ _ _ _ _ _ c.in-Err.halt c.new-follower.ensures c.in-Err.ensures.offered)

pub returns-in-Ok-print_held-clause-followed : goal.returns-in-Ok-print_held-clause-followed
returns-in-Ok-print_held-clause-followed g c =
    done g.W.Watcher.hearing c.args.states _ _ _ _ (g.K.Sink.written c.offer_all.new.out) _ _ (g.K.Sink.faults c.offer_all.new.out) _ c.in-Ok.all _
    (rw c.new-follower.ensures at c.in-Ok.ensures.offered) c.in-Ok-print_held.ensures.printed c.end_of_offers.ensures

pub returns-clause-followed : goal.returns-clause-followed
returns-clause-followed g c =
    rw c.halted-in-Err-print_held.ensures (
    halted_late g.W.Watcher.hearing c.args.states _ _ _ _ (g.K.Sink.written c.offer_all.new.out) _ _ (g.K.Sink.faults c.offer_all.new.out) _ c.in-Ok.all c.in-Err-print_held.halt
    (rw c.new-follower.ensures at c.in-Ok.ensures.offered) c.in-Err-print_held.ensures.printed
    )
