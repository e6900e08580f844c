use Rattle.std.proofs.Common.{◌*◌, arith, w64, FitsSigned}
use Rattle.std.proofs.lemmas.Int.{ints, to_z-of_z}
use Rattle.ml_gaps.proofs.Nears.{wide_enough, reaches_more}
use Rattle.ml_gaps.proofs.strip.Strip.about.Goals as goal

pub returns-clause-about : goal.returns-clause-about
returns-clause-about c until near a reach reaches (r, wide, own, far) s less =
    let axis = c.args.axis in
    let b = c.args.label.now in
    let last = c.args.near.now.last in
    let world = c.anchor_on.ensures.world in
    let fits : FitsSigned w64 c.anchor_on.result = omega (arith, ints) in
    let apart = rw c.anchor_on.ensures.is at (simp to_z-of_z at far) in
    c.distant_labels.ensures axis a b r (2 * r * last) until (reaches_more axis a reach r wide reaches)
    (reaches_more axis b c.reach_on.result r own c.reach_on.ensures.reaches) (wide_enough r last until near.last) apart s less
