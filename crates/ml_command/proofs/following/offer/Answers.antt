use Rattle.std.proofs.Common.{refl}
use Rattle.ml_command.specs.Offering.{offered}
use Rattle.ml_command.proofs.following.offer.Goals as goal

pub returns-in-Ok-put_all-clause-turn : goal.returns-in-Ok-put_all-clause-turn
returns-in-Ok-put_all-clause-turn g c =
    let answered = c.in-Ok.ensures.answered in
    (offered c.in-Ok.answer answered.0, answered.1, rw c.deref.ensures.value at c.in-Ok-put_all.ensures.ok, refl, c.in-Ok-put_all.ensures.cause.fine)

pub returns-clause-turn : goal.returns-clause-turn
returns-clause-turn g c =
    let answered = c.in-Ok.ensures.answered in
    (offered c.in-Ok.answer answered.0, answered.1, rw c.deref.ensures.value at c.in-Err.ensures.err, c.in-Err.ensures.cause.failed)
