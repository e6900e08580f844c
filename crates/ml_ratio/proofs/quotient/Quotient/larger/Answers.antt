use Rattle.std.proofs.Common.{arith}
use Rattle.ml_ratio.specs.Quotient.{worth}
use Rattle.ml_ratio.proofs.lemmas.Fractions.{above_both, above_both_turned, from_both, from_both_turned}
use Rattle.ml_ratio.proofs.quotient.Quotient.larger.Goals as goal

pub returns-then-is_less-clause-above : goal.returns-then-is_less-clause-above
returns-then-is_less-clause-above c = above_both (worth c.args.self) (worth c.args.other) (omega (arith, c.if-is_less.ensures))

pub returns-then-is_less-clause-at_most : goal.returns-then-is_less-clause-at_most
returns-then-is_less-clause-at_most c = from_both (worth c.args.self) (worth c.args.other) (omega (arith, c.if-is_less.ensures))

pub returns-else-is_less-clause-above : goal.returns-else-is_less-clause-above
returns-else-is_less-clause-above c = above_both_turned (worth c.args.self) (worth c.args.other) c.if-is_less.ensures

pub returns-else-is_less-clause-at_most : goal.returns-else-is_less-clause-at_most
returns-else-is_less-clause-at_most c = from_both_turned (worth c.args.self) (worth c.args.other) c.if-is_less.ensures
