use Rattle.std.proofs.Common.{arith, w32, FitsSigned}
use Rattle.std.proofs.lemmas.Int.{to_z-of_z}
use Rattle.ml_cone.proofs.Outlines.{finer_few}
use Rattle.ml_cone.proofs.outline.Outline.finer.Goals as goal

pub returns-then-finer-band : goal.returns-then-finer-band
returns-then-finer-band c =
    let most = c.max-finer.ensures in
    let down = c.saturating_sub.ensures in
    let less = c.if-finer-band.true in
    let fits : FitsSigned w32 c.args.width = c.ranges.width in
    let narrow = simp to_z-of_z at c.in_ok-steps.ensures in
    record {
      from = omega arith;
      upto = omega arith;
      few = finer_few c.args.width c.in_ok-steps.steps c.args.band c.max-finer.result (omega arith) narrow;
    }
