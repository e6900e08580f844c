use Rattle.std.proofs.Common.{arith, FitsSigned, w32, w64}
use Rattle.std.proofs.lemmas.Int.{ints, to_z-of_z}
use Rattle.ml_conflict.proofs.scales.rectangles_interval.Goals as goal

pub returns-clause-scales : goal.returns-clause-scales
returns-clause-scales c s scale =
    let f1 : FitsSigned w64 c.args.a.now.x = omega (arith, ints, c.args.a.now.world_x) in
    let f2 : FitsSigned w64 c.args.a.now.y = omega (arith, ints, c.args.a.now.world_y) in
    let f3 : FitsSigned w64 c.args.b.now.x = omega (arith, ints, c.args.b.now.world_x) in
    let f4 : FitsSigned w64 c.args.b.now.y = omega (arith, ints, c.args.b.now.world_y) in
    let g1 : FitsSigned w32 c.args.p.now.l = omega (arith, ints) in
    let g2 : FitsSigned w32 c.args.p.now.b = omega (arith, ints) in
    let g3 : FitsSigned w32 c.args.p.now.r = omega (arith, ints) in
    let g4 : FitsSigned w32 c.args.p.now.t = omega (arith, ints) in
    let h1 : FitsSigned w32 c.args.q.now.l = omega (arith, ints) in
    let h2 : FitsSigned w32 c.args.q.now.b = omega (arith, ints) in
    let h3 : FitsSigned w32 c.args.q.now.r = omega (arith, ints) in
    let h4 : FitsSigned w32 c.args.q.now.t = omega (arith, ints) in
    let one = simp (c.x.ensures, c.x-2.ensures, to_z-of_z) at (c.sides.ensures.scales s scale) in
    let two = simp (c.y.ensures, c.y-2.ensures, to_z-of_z) at (c.sides-2.ensures.scales s scale) in
    let w = c.both.ensures.same s in
    (λ h. w.1 (one.0 h.0, two.0 h.1), λ h. (one.1 (w.0 h).0, two.1 (w.0 h).1))
