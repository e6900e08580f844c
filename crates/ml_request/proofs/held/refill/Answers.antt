use Rattle.std.proofs.Common.{refl}
use Rattle.std.proofs.lemmas.Result.{IfOk-weaker}
use Rattle.ml_request.proofs.HeldLemmas.{fill_of, stays_of, on_any_err}
use Rattle.ml_request.proofs.held.refill.Goals as goal

pub returns-clause-gains : goal.returns-clause-gains
returns-clause-gains g c =
    IfOk-weaker c.take_behind-taken.result _ _
    (λ n takes. fill_of _ _ c.args.buffer.now c.make_room-start.new.buffer c.take_behind-taken.new.buffer _ c.args.start
    c.make_room-start.result c.args.count n refl c.make_room-start.ensures.same c.take_behind-taken.ensures.front takes)
    c.take_behind-taken.ensures.ok

pub returns-clause-err : goal.returns-clause-err
returns-clause-err g c =
    on_any_err c.take_behind-taken.result _
    (stays_of c.args.buffer.now c.make_room-start.new.buffer c.take_behind-taken.new.buffer _ c.args.start
    c.make_room-start.result c.args.count refl c.make_room-start.ensures.same c.take_behind-taken.ensures.front)
