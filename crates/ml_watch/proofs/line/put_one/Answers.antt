use Rattle.std.proofs.Common.{◌∷◌, []}
use Rattle.ml_watch.proofs.Putting.{held_pushed, held_failed}
use Rattle.ml_watch.proofs.line.put_one.Goals as goal

pub returns-in-Ok : goal.returns-in-Ok
returns-in-Ok g c =
    let cause = rw c.in-Ok.is at c.make_room.ensures.cause in
    held_pushed _ _ _ _ _ c.args.byte _ _ c.make_room.ensures.same c.make_room.ensures.grows cause.fine c.push.ensures tt

pub returns-in-Err : goal.returns-in-Err
returns-in-Err g c = held_failed _ _ _ _ (c.args.byte ∷ []) _ _ c.make_room.result _ c.make_room.ensures.same c.make_room.ensures.grows c.make_room.ensures.cause (rw c.in-Err.is tt) tt
