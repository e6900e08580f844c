use Rattle.std.proofs.Common.{arith}
use Rattle.ml_ratio.specs.Quotient.{worth}
use Rattle.ml_ratio.proofs.lemmas.Fractions.{below_both, below_both_turned}
use Rattle.ml_ratio.proofs.quotient.Quotient.smaller.Goals as goal

pub returns-then-is_less-clause-same : goal.returns-then-is_less-clause-same
returns-then-is_less-clause-same c = below_both (worth c.args.self) (worth c.args.other) (omega (arith, c.if-is_less.ensures))

pub returns-else-is_less-clause-same : goal.returns-else-is_less-clause-same
returns-else-is_less-clause-same c = below_both_turned (worth c.args.self) (worth c.args.other) c.if-is_less.ensures
