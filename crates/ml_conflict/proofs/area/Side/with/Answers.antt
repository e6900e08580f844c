use Rattle.std.proofs.Common.{arith, w64, FitsSigned}
use Rattle.std.proofs.lemmas.Int.{ints, to_z-of_z}
use Rattle.ml_conflict.proofs.Distances.{reaches_more}
use Rattle.ml_conflict.proofs.area.Side.with.Goals as goal

pub returns-clause-first : goal.returns-clause-first
returns-clause-first c axis a on =
    let self = c.args.self.now in
    let from_world = c.least.ensures.world in
    let to_world = c.most.ensures.world in
    let fits_from : FitsSigned w64 c.least.result = omega (arith, ints) in
    let fits_to : FitsSigned w64 c.most.result = omega (arith, ints) in
    record {
      from = simp to_z-of_z (let le = c.least.ensures.first in let from = on.from in omega (arith, ints));
      to = simp to_z-of_z (let le = c.most.ensures.first in let to = on.to in omega (arith, ints));
      reach = reaches_more axis a self.reach c.larger.result c.larger.ensures.first on.reach;
    }

pub returns-clause-second : goal.returns-clause-second
returns-clause-second c axis a on =
    let other = c.args.other.now in
    let from_world = c.least.ensures.world in
    let to_world = c.most.ensures.world in
    let fits_from : FitsSigned w64 c.least.result = omega (arith, ints) in
    let fits_to : FitsSigned w64 c.most.result = omega (arith, ints) in
    record {
      from = simp to_z-of_z (let le = c.least.ensures.second in let from = on.from in omega (arith, ints));
      to = simp to_z-of_z (let le = c.most.ensures.second in let to = on.to in omega (arith, ints));
      reach = reaches_more axis a other.reach c.larger.result c.larger.ensures.second on.reach;
    }
