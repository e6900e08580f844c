use Rattle.std.proofs.Common.{arith}
use Rattle.std.proofs.lemmas.List.{same_lists}
use Rattle.ml_cone.proofs.same.same_boxes.Goals as goal

pub returns : goal.returns
returns c = same_lists c.args.one.now c.args.other.now c.if-one-other.false (λ k d lt. c.loop-k.invariant k d (omega arith))
