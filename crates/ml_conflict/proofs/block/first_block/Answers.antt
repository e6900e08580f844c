use Rattle.std.proofs.Common.{arith}
use Rattle.ml_ratio.specs.Fraction.{value_of, IsSame, IsLess}
use Rattle.ml_ratio.proofs.lemmas.Fractions.{at_most_less, less_at_most}
use Rattle.ml_ratio.specs.Quotient.{worth}
use Rattle.ml_conflict.proofs.Greedy.{Allows-smaller}
use Rattle.ml_conflict.proofs.Limits.{limit_same}
use Rattle.ml_conflict.proofs.block.first_block.Goals as goal

pub returns-then-is_less-clause-some : goal.returns-then-is_less-clause-some
returns-then-is_less-clause-some c =
    let max : IsSame (worth c.of_ratio-max.result) (value_of c.args.low.now.max) = rw c.max.ensures at c.of_ratio-max.ensures.same in
    let below : IsLess (worth c.block-first.result) (value_of c.args.low.now.max) = less_at_most (worth c.block-first.result)
    (worth c.of_ratio-max.result) (value_of c.args.low.now.max) c.if-is_less.ensures (omega arith) in (
      limit_same c.args.low.now c.args.high.now (value_of c.args.until.now) (value_of c.args.until.now) (worth c.block-first.result)
          (value_of c.reduced.result) (omega arith) c.reduced.ensures.same (c.block-first.ensures.limit c.if-is_less.ensures),
      at_most_less (value_of c.reduced.result) (worth c.block-first.result) (value_of c.args.low.now.max) (omega (arith, c.reduced.ensures.same)) below,
    )

pub returns-else-is_less-clause-none : goal.returns-else-is_less-clause-none
returns-else-is_less-clause-none c =
    let max : IsSame (worth c.of_ratio-max.result) (value_of c.args.low.now.max) = rw c.max.ensures at c.of_ratio-max.ensures.same in
    Allows-smaller c.args.low.now c.args.high.now (value_of c.args.until.now) (value_of c.args.until.now) (value_of c.args.low.now.max) (worth c.of_ratio-max.result) (omega arith) (omega arith)
    (c.block-first.ensures.allowed c.if-is_less.ensures)
