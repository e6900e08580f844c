use Rattle.ml_ratio.specs.Fraction.{value_of}
use Rattle.ml_cone.specs.Near.{AreClear}
use Rattle.ml_repair.proofs.gather.is_far.Goals as goal

pub returns : goal.returns
returns c far until =
    let low = c.args.sought.now.low.now in
    let clear : AreClear low c.args.label.now c.args.bound.now.num c.args.bound.now.den =
    rw (far, c.of_ratio.ensures.num, c.of_ratio.ensures.den) at (c.is_clear.ensures low c.args.label.now c.args.sought.now.its_site c.of.ensures) in
    c.clear_labels.ensures low c.args.label.now until (value_of c.args.bound.now) clear
