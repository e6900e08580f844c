use Rattle.std.proofs.Common.{rules, ◌≡◌, FitsSigned}
use Rattle.std.proofs.lemmas.Int.{to_z-of_z}
use mir.Syntax.{w128}
use Rattle.ml_ratio.specs.Floor.{floor}
use Rattle.ml_ratio.proofs.Floors.{floors}
use Rattle.ml_ratio.proofs.rounding.floor_of.Goals as goal

pub returns-clause-value : goal.returns-clause-value
unfolding floor
returns-clause-value c =
    let r : FitsSigned w128 c.div_euclid.result = search rules in
    let p : FitsSigned w128 c.args.p = c.ranges.p in
    let d : FitsSigned w128 c.args.d = c.ranges.d in
    let e : c.div_euclid.result ≡ floor c.args.p c.args.d = simp to_z-of_z at c.div_euclid.ensures in
    simp to_z-of_z e

pub returns-clause-bounds : goal.returns-clause-bounds
unfolding floor
returns-clause-bounds c =
    let r : FitsSigned w128 c.div_euclid.result = search rules in
    let p : FitsSigned w128 c.args.p = c.ranges.p in
    let d : FitsSigned w128 c.args.d = c.ranges.d in
    let e : c.div_euclid.result ≡ floor c.args.p c.args.d = simp to_z-of_z at c.div_euclid.ensures in
    simp to_z-of_z (rw e (floors c.args.p c.args.d c.requires))
