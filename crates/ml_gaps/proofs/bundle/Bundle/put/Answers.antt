use Rattle.std.proofs.Common.{arith, w64, FitsSigned}
use Rattle.std.proofs.lemmas.Int.{ints, to_z-of_z}
use Rattle.ml_gaps.proofs.Bundling.{bundle_more}
use Rattle.ml_gaps.proofs.bundle.Bundle.put.Goals as goal

pub returns-clause-bundle : goal.returns-clause-bundle
returns-clause-bundle c =
    let low = c.lesser-self.ensures.world in
    let high = c.greater-self.ensures.world in
    let world = c.args.strip.world in
    let least = c.args.self.now.world_least in
    let most = c.args.self.now.world_most in
    let fits_low : FitsSigned w64 c.lesser-self.result = omega (arith, ints) in
    let fits_high : FitsSigned w64 c.greater-self.result = omega (arith, ints) in
    let fits : FitsSigned w64 c.args.strip.at = omega (arith, ints) in
    let fits_least : FitsSigned w64 c.args.self.now.least = omega (arith, ints) in
    let fits_most : FitsSigned w64 c.args.self.now.most = omega (arith, ints) in
    let from = simp to_z-of_z at c.lesser-self.ensures.second in
    let to = simp to_z-of_z at c.greater-self.ensures.second in
    let further_from = simp to_z-of_z at c.lesser-self.ensures.first in
    let further_to = simp to_z-of_z at c.greater-self.ensures.first in
    let wide = c.max-self.ensures in
    let late = c.max-self-2.ensures in
    bundle_more c.args.self.now _ c.args.strip c.in_ok-push.ensures.items
    (record {
      from = simp to_z-of_z from;
      to = simp to_z-of_z to;
      reach = omega arith;
      last = omega arith;
    })
    (simp to_z-of_z further_from) (simp to_z-of_z further_to) (omega arith) (omega arith) c.requires
