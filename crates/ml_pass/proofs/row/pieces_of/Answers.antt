use Rattle.std.proofs.Common.{◌≡◌, ◌-◌, arith}
use Rattle.ml_pass.proofs.row.pieces_of.Goals as goal

pub returns : goal.returns
returns c =
    let same : c.loop-piece._piece - 1 ≡ c.args.count - 1 = omega arith in
    rw same at c.loop-piece.invariant.0
