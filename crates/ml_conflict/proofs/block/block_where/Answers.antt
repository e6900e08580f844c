use Rattle.std.proofs.Common.{◌↔◌, arith}
use Rattle.ml_ratio.specs.Fraction.{Fraction, value_of, IsLess, IsAtMost}
use Rattle.ml_ratio.specs.Quotient.{worth}
use Rattle.ml_conflict.proofs.Limits.{begins_block, block_same, block_none, start_from, clear_allows}
use Rattle.ml_conflict.proofs.block.block_where.Goals as goal

pub begin_all-requires : goal.begin_all-requires
begin_all-requires c =
    let less : IsLess (worth c.larger-start.result) (worth c.args.bound) = ((c.smaller.ensures.same (worth c.larger-start.result)).0 (c.may_overlap.ensures.some c.if-may_overlap.true)).0 in
    omega arith

pub returns-then-may_overlap : goal.returns-then-may_overlap
returns-then-may_overlap c =
    let from : (s : Fraction) → IsAtMost (worth c.larger-start.result) s ↔ (IsAtMost (value_of c.args.low.now.min) s × IsAtMost (value_of c.args.high.now.min) s) =
    start_from (value_of c.args.low.now.min) (value_of c.args.high.now.min) (worth c.of_ratio-low_min.result) (worth c.of_ratio.result) (worth c.larger-start.result)
    c.larger-start.ensures.at_most (rw c.min.ensures at c.of_ratio-low_min.ensures.at_most) (rw c.min-2.ensures at c.of_ratio.ensures.at_most) in
    block_same c.args.low.now c.args.high.now (worth c.of_ratio-end.result) (value_of c.args.until.now) (worth c.args.bound) (worth c.begin_all.result) c.of_ratio-end.ensures.same
    (begins_block c.args.low.now c.args.high.now (worth c.of_ratio-end.result) (worth c.larger-start.result) (worth c.args.bound) (worth c.begin_all.result) from c.requires c.begin_all.ensures)

pub returns-else-may_overlap : goal.returns-else-may_overlap
returns-else-may_overlap c =
    let from : (s : Fraction) → IsAtMost (worth c.larger-start.result) s ↔ (IsAtMost (value_of c.args.low.now.min) s × IsAtMost (value_of c.args.high.now.min) s) =
    start_from (value_of c.args.low.now.min) (value_of c.args.high.now.min) (worth c.of_ratio-low_min.result) (worth c.of_ratio.result) (worth c.larger-start.result)
    c.larger-start.ensures.at_most (rw c.min.ensures at c.of_ratio-low_min.ensures.at_most) (rw c.min-2.ensures at c.of_ratio.ensures.at_most) in
    block_same c.args.low.now c.args.high.now (worth c.of_ratio-end.result) (value_of c.args.until.now) (worth c.args.bound) (worth c.args.bound) c.of_ratio-end.ensures.same
    (block_none c.args.low.now c.args.high.now (worth c.of_ratio-end.result) (worth c.args.bound)
    (clear_allows c.args.low.now c.args.high.now (worth c.of_ratio-end.result) (worth c.larger-start.result) (worth c.args.bound)
    (worth c.smaller.result) from c.smaller.ensures.same (c.may_overlap.ensures.none c.if-may_overlap.false)))
