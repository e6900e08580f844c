use Rattle.std.proofs.Common.{arith}
use Rattle.ml_ratio.specs.Fraction.{value_of}
use Rattle.ml_gaps.specs.Gap.{length_of, gap_length}
use Rattle.ml_gaps.proofs.Lengths.{empty_length, none_shorter}
use Rattle.ml_gaps.proofs.gap.Gap.or_longer.Goals as goal

pub returns-then-is_less-clause-longer : goal.returns-then-is_less-clause-longer
returns-then-is_less-clause-longer c h =
    absurd (none_shorter (gap_length c.args.self) (length_of (value_of c.args.from) (value_of c.args.until))
    (empty_length (value_of c.args.from) (value_of c.args.until) (omega (arith, c.if-is_less.ensures))) h)

pub returns-then-is_shorter-clause-kept : goal.returns-then-is_shorter-clause-kept
unfolding length_of
returns-then-is_shorter-clause-kept c h =
    let less = rw (c.length_between-here.ensures.num, c.length_between-here.ensures.den, c.length_between-there.ensures.num, c.length_between-there.ensures.den) at c.if-is_shorter.ensures in
    absurd (omega arith)

pub returns-else-is_shorter-clause-longer : goal.returns-else-is_shorter-clause-longer
unfolding length_of
returns-else-is_shorter-clause-longer c h =
    let most = rw (c.length_between-here.ensures.num, c.length_between-here.ensures.den, c.length_between-there.ensures.num, c.length_between-there.ensures.den) at c.if-is_shorter.ensures in
    absurd (omega arith)
