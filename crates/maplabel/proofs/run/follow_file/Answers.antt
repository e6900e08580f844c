use Rattle.std.proofs.Common.{inl, inr, refl}
use Rattle.maplabel.proofs.run.follow_file.Goals as goal

pub returns-in-Ok-clause-end : goal.returns-in-Ok-clause-end
returns-in-Ok-clause-end g c = inr (c.in-Ok.states, c.in-Ok.ensures.ok, c.in-Ok.ensures.kept, (c.follow.result, c.follow.ensures.followed, c.status_of_following.ensures))

pub returns-in-Err-clause-end : goal.returns-in-Err-clause-end
returns-in-Err-clause-end g c = inl ((c.in-Err.stop, c.in-Err.ensures.stop, c.in-Err.ensures.kept, c.print_stop.ensures.printed), refl)
