use Rattle.std.proofs.Common.{◌-◌, refl, arith}
use Rattle.ml_ratio.specs.Fraction.{value_of}
use Rattle.ml_conflict.proofs.Blocks.{away_both}
use Rattle.ml_conflict.proofs.strip.Field.pass_west.Goals as goal

pub loop-at-preserved : goal.loop-at-preserved
loop-at-preserved c =
    let so_far = c.loop-at.invariant in
    let until = so_far.until in
    let within = c.requires.within in
    record {
      until = omega arith;
      away = λ labels are.
          away_both labels c.args.self.now.strips.items c.args.area.now (value_of c.args.bound.now) (c.loop-at.at - 8) c.loop-at.at c.args.until
          (c.if-is_away.ensures refl labels are c.loop-at.at (omega arith) (omega arith)) (so_far.away labels are);
    }
