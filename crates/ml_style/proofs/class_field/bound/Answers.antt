use Rattle.std.proofs.Common.{arith}
use Rattle.ml_ratio.specs.RatioText.{ratio_parts}
use Rattle.ml_style.proofs.Bounds.{low, high}
use Rattle.ml_style.proofs.class_field.bound.Goals as goal

pub returns-then-num-den-clause-value : goal.returns-then-num-den-clause-value
returns-then-num-den-clause-value c = low (ratio_parts c.args.text.now) c.in_ok-ratio.ratio c.in_ok-ratio.ensures (omega arith)

pub returns-else-num-den-clause-value : goal.returns-else-num-den-clause-value
returns-else-num-den-clause-value c = high (ratio_parts c.args.text.now) c.in_ok-ratio.ratio c.in_ok-ratio.ensures (omega arith)
