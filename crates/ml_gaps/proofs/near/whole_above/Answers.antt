use Rattle.std.proofs.Common.{◌^◌}
use Rattle.ml_gaps.proofs.Nears.{rounded_up, rounded_low}
use Rattle.ml_gaps.proofs.near.whole_above.Goals as goal

pub returns-clause-above : goal.returns-clause-above
returns-clause-above c = rw (c.num.ensures, c.den.ensures, c.den-2.ensures) (rounded_up c.args.r.now.num c.args.r.now.den c.args.r.now.positive)

pub returns-clause-low : goal.returns-clause-low
returns-clause-low c = rw (c.num.ensures, c.den.ensures, c.den-2.ensures) (rounded_low c.args.r.now.num c.args.r.now.den (2 ^ 32) c.args.r.now.positive c.args.r.now.low_num)
