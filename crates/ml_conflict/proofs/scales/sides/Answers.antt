use Rattle.std.proofs.Common.{arith, FitsSigned, w32, w64, ◌-ℤ◌}
use Rattle.std.proofs.lemmas.Int.{ints, to_z-of_z}
use Rattle.ml_conflict.proofs.Openness.{below_by_distance}
use Rattle.ml_conflict.proofs.scales.sides.Goals as goal

pub returns-clause-scales : goal.returns-clause-scales
returns-clause-scales c s scale =
    let fx : FitsSigned w64 c.args.x = c.ranges.x in
    let fy : FitsSigned w64 c.args.y = c.ranges.y in
    let fl : FitsSigned w32 c.args.l = c.ranges.l in
    let fr : FitsSigned w32 c.args.r = c.ranges.r in
    let fk : FitsSigned w32 c.args.k = c.ranges.k in
    let ft : FitsSigned w32 c.args.t = c.ranges.t in
    let fl' : FitsSigned w64 c.args.l = omega (arith, ints) in
    let fr' : FitsSigned w64 c.args.r = omega (arith, ints) in
    let fk' : FitsSigned w64 c.args.k = omega (arith, ints) in
    let ft' : FitsSigned w64 c.args.t = omega (arith, ints) in
    let f1 : FitsSigned w64 (c.args.t -ℤ c.args.l) = omega (arith, ints) in
    let f2 : FitsSigned w64 (c.args.r -ℤ c.args.k) = omega (arith, ints) in
    let f3 : FitsSigned w64 (c.args.x -ℤ c.args.y) = omega (arith, ints) in
    let f4 : FitsSigned w64 (c.args.y -ℤ c.args.x) = omega (arith, ints) in
    let one = simp to_z-of_z at (c.half_line.ensures.scales s scale) in
    let two = simp to_z-of_z at (c.half_line-2.ensures.scales s scale) in
    let d = below_by_distance c.args.x c.args.l c.args.y c.args.t s in
    let e = below_by_distance c.args.y c.args.k c.args.x c.args.r s in
    let w = c.both.ensures.same s in
    (λ h. w.1 (one.0 (d.0 h.0), two.0 (e.0 h.1)), λ h. (d.1 (one.1 (w.0 h).0), e.1 (two.1 (w.0 h).1)))
