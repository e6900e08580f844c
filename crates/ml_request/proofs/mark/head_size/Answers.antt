use Rattle.std.proofs.Common.{arith}
use Rattle.ml_request.proofs.Marks.{mark_fits}
use Rattle.ml_request.proofs.mark.head_size.Goals as goal

pub returns-clause-none : goal.returns-clause-none
returns-clause-none c at mark =
    let fits = mark_fits c.args.bytes.now at mark in
    c.loop-at.invariant.before at (omega arith) mark
