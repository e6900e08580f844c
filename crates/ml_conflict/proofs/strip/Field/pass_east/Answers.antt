use Rattle.std.proofs.Common.{◌+◌, refl, arith}
use Rattle.ml_ratio.specs.Fraction.{value_of}
use Rattle.ml_conflict.proofs.Blocks.{away_both}
use Rattle.ml_conflict.proofs.strip.Field.pass_east.Goals as goal

pub loop-at-preserved : goal.loop-at-preserved
loop-at-preserved c =
    let so_far = c.loop-at.invariant in
    let from = so_far.from in
    let within = so_far.within in
    let step = c.min-at.ensures in
    record {
      from = omega arith;
      within = omega arith;
      away = λ labels are.
          away_both labels c.args.self.now.strips.items c.args.area.now (value_of c.args.bound.now) c.args.from c.loop-at.at (c.loop-at.at + c.min-at.result)
          (so_far.away labels are) (c.if-is_away.ensures refl labels are (c.loop-at.at + c.min-at.result) (omega arith) (omega arith));
    }
