use Rattle.std.proofs.Common.{◌≡◌, ◌*◌, ◌/◌, arith, FitsSigned, w32, w64, to_z, pos, ◌-ℤ◌, ◌+ℤ◌}
use Rattle.std.proofs.lemmas.Int.{ints, to_z-of_z, to_z_pos}
use Rattle.ml_flight.proofs.HalfLines.{side_by_halves}
use Rattle.ml_flight.proofs.solve.side_stay.Goals as goal

pub returns-in-Some : goal.returns-in-Some
returns-in-Some c s =
    let fx : FitsSigned w64 c.args.x = c.ranges.x in
    let fc : FitsSigned w64 c.args.c = c.ranges.c in
    let fl' : FitsSigned w32 c.args.l = c.ranges.l in
    let fl : FitsSigned w64 c.args.l = omega (arith, ints) in
    let fr' : FitsSigned w32 c.args.r = c.ranges.r in
    let fr : FitsSigned w64 c.args.r = omega (arith, ints) in
    let half : to_z w64 (c.args.w / 2) ≡ pos (c.args.w / 2) = to_z_pos w64 (c.args.w / 2) (omega arith) in
    let f1 : FitsSigned w64 (c.args.x -ℤ c.args.c) = omega (arith, ints) in
    let f2 : FitsSigned w64 (c.args.c -ℤ c.args.x) = omega (arith, ints) in
    let f3 : FitsSigned w64 (pos (c.args.w / 2) -ℤ c.args.l) = omega (arith, ints) in
    let f4 : FitsSigned w64 (pos (c.args.w / 2) +ℤ c.args.r) = omega (arith, ints) in
    let e : c.args.w ≡ 2 * (c.args.w / 2) = omega arith in
    let one = simp (half, to_z-of_z) at (c.in-Some.ensures s) in
    let two = simp (half, to_z-of_z) at (c.narrowed-in-Some.ensures s) in
    let k = side_by_halves c.args.x c.args.l c.args.r c.args.c c.args.w (c.args.w / 2) s e in (
      λ h. let b = two.0 h in let a = one.0 b.0 in (a.0, k.1 (a.1, b.1)),
      λ h. let b = k.0 h.1 in two.1 (one.1 (h.0, b.0), b.1),
    )

pub returns-in-None : goal.returns-in-None
returns-in-None c s =
    let fx : FitsSigned w64 c.args.x = c.ranges.x in
    let fc : FitsSigned w64 c.args.c = c.ranges.c in
    let fl' : FitsSigned w32 c.args.l = c.ranges.l in
    let fl : FitsSigned w64 c.args.l = omega (arith, ints) in
    let half : to_z w64 (c.args.w / 2) ≡ pos (c.args.w / 2) = to_z_pos w64 (c.args.w / 2) (omega arith) in
    let f1 : FitsSigned w64 (c.args.x -ℤ c.args.c) = omega (arith, ints) in
    let f3 : FitsSigned w64 (pos (c.args.w / 2) -ℤ c.args.l) = omega (arith, ints) in
    let e : c.args.w ≡ 2 * (c.args.w / 2) = omega arith in
    let one = simp (half, to_z-of_z) at (c.in-None.ensures s) in
    let k = side_by_halves c.args.x c.args.l c.args.r c.args.c c.args.w (c.args.w / 2) s e in
    (λ h. absurd h, λ h. one.1 (h.0, (k.0 h.1).0))
