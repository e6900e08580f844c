use Rattle.std.proofs.Common.{arith}
use Rattle.ml_ratio.specs.Fraction.{value_of}
use Rattle.ml_ratio.proofs.lemmas.Fractions.{from_both, from_both_turned}
use Rattle.ml_gaps.proofs.piece.larger.Goals as goal

pub returns-then-is_less : goal.returns-then-is_less
returns-then-is_less c = from_both (value_of c.args.a) (value_of c.args.b) (omega (arith, c.if-is_less.ensures))

pub returns-else-is_less : goal.returns-else-is_less
returns-else-is_less c = from_both_turned (value_of c.args.a) (value_of c.args.b) c.if-is_less.ensures
