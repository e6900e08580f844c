use Rattle.std.proofs.Common.{arith}
use Rattle.ml_ratio.specs.Fraction.{value_of, IsSame, IsLess, IsAtMost}
use Rattle.ml_ratio.proofs.lemmas.Fractions.{at_most_less, less_at_most, at_most_trans}
use Rattle.ml_ratio.specs.Quotient.{worth}
use Rattle.ml_conflict.proofs.Greedy.{Allows-smaller}
use Rattle.ml_conflict.proofs.Limits.{limit_same, none_of_allowed, none_of_above}
use Rattle.ml_conflict.proofs.block.limit_up_to.Goals as goal

pub returns-then-not-is_less-clause-none : goal.returns-then-not-is_less-clause-none
returns-then-not-is_less-clause-none c =
    let max : IsSame (worth c.of_ratio-max.result) (value_of c.args.low.now.max) = rw c.max.ensures at c.of_ratio-max.ensures.same in
    none_of_allowed c.args.low.now c.args.high.now (value_of c.args.until.now) (value_of c.args.bound.now)
    (Allows-smaller c.args.low.now c.args.high.now (value_of c.args.until.now) (value_of c.args.until.now) (value_of c.args.low.now.max) (worth c.of_ratio-max.result) (omega arith) (omega arith)
    (c.block_where-first.ensures.allowed c.if-not-is_less.ensures))

pub returns-then-is_less-clause-none : goal.returns-then-is_less-clause-none
returns-then-is_less-clause-none c =
    let above : IsLess (value_of c.args.bound.now) (worth c.block_where-first.result) = at_most_less (value_of c.args.bound.now)
    (worth c.of_ratio.result) (worth c.block_where-first.result) (omega (arith, c.of_ratio.ensures.same)) c.if-is_less.ensures in
    none_of_above c.args.low.now c.args.high.now (value_of c.args.until.now) (value_of c.args.bound.now)
    (worth c.block_where-first.result) (c.block_where-first.ensures.limit c.if-not-is_less.ensures) above

pub returns-clause-some : goal.returns-clause-some
returns-clause-some c =
    limit_same c.args.low.now c.args.high.now (value_of c.args.until.now) (value_of c.args.until.now) (worth c.block_where-first.result)
    (value_of c.reduced.result) (omega arith) c.reduced.ensures.same (c.block_where-first.ensures.limit c.if-not-is_less.ensures)

pub returns-clause-below : goal.returns-clause-below
returns-clause-below c =
    let max : IsSame (worth c.of_ratio-max.result) (value_of c.args.low.now.max) = rw c.max.ensures at c.of_ratio-max.ensures.same in
    let below : IsLess (worth c.block_where-first.result) (value_of c.args.low.now.max) =
    less_at_most (worth c.block_where-first.result) (worth c.of_ratio-max.result) (value_of c.args.low.now.max) c.if-not-is_less.ensures (omega arith) in
    let upto : IsAtMost (worth c.block_where-first.result) (value_of c.args.bound.now) = at_most_trans (worth c.block_where-first.result)
    (worth c.of_ratio.result) (value_of c.args.bound.now) c.if-is_less.ensures (omega (arith, c.of_ratio.ensures.same)) in (
      at_most_less (value_of c.reduced.result) (worth c.block_where-first.result) (value_of c.args.low.now.max) (omega (arith, c.reduced.ensures.same)) below,
      at_most_trans (value_of c.reduced.result) (worth c.block_where-first.result) (value_of c.args.bound.now) (omega (arith, c.reduced.ensures.same)) upto,
    )
