use Rattle.std.proofs.Common.{rules, arith, w64, pos, ◌*ℤ◌, FitsSigned}
use Rattle.std.proofs.lemmas.Int.{ints, to_z-of_z}
use Rattle.ml_anchor.proofs.scan.rises.Goals as goal

pub returns-then-a-h : goal.returns-then-a-h
returns-then-a-h c =
    let a : FitsSigned w64 c.args.a.y = search rules in
    let b : FitsSigned w64 c.args.b.y = search rules in
    let a2 : FitsSigned w64 (pos 2 *ℤ c.args.a.y) = omega (arith, ints) in
    let b2 : FitsSigned w64 (pos 2 *ℤ c.args.b.y) = omega (arith, ints) in
    let h : FitsSigned w64 c.args.h = c.ranges.h in
    let e = simp to_z-of_z at c.if-a-h.true in
    simp (to_z-of_z, e)

pub returns-else-a-h : goal.returns-else-a-h
returns-else-a-h c =
    let a : FitsSigned w64 c.args.a.y = search rules in
    let a2 : FitsSigned w64 (pos 2 *ℤ c.args.a.y) = omega (arith, ints) in
    let h : FitsSigned w64 c.args.h = c.ranges.h in
    let e = simp to_z-of_z at c.if-a-h.false in
    simp (to_z-of_z, e)
