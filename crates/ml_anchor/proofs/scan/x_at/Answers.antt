use Rattle.std.proofs.Common.{rules, arith, w64, pos, ◌*ℤ◌, FitsSigned}
use Rattle.std.proofs.lemmas.Int.{ints, to_z-of_z}
use Rattle.ml_anchor.proofs.ScanLemmas.{rises_bounds}
use Rattle.ml_anchor.proofs.scan.x_at.Goals as goal

pub height_at-requires-clause-before : goal.height_at-requires-clause-before
height_at-requires-clause-before c =
    let r = rises_bounds c.args.h c.args.a c.args.b c.requires in
    let b : FitsSigned w64 c.args.b.y = search rules in
    let b2 : FitsSigned w64 (pos 2 *ℤ c.args.b.y) = omega (arith, ints) in
    let h : FitsSigned w64 c.args.h = c.ranges.h in
    simp to_z-of_z (omega (arith, ints, r.1))

pub height_at-requires-clause-apart : goal.height_at-requires-clause-apart
height_at-requires-clause-apart c =
    let r = rises_bounds c.args.h c.args.a c.args.b c.requires in
    omega (arith, ints, r.0, r.1)

pub returns : goal.returns
returns c =
    let r = rises_bounds c.args.h c.args.a c.args.b c.requires in
    let ax : FitsSigned w64 c.args.a.x = search rules in
    let bx : FitsSigned w64 c.args.b.x = search rules in
    let a : FitsSigned w64 c.args.a.y = search rules in
    let b : FitsSigned w64 c.args.b.y = search rules in
    let a2 : FitsSigned w64 (pos 2 *ℤ c.args.a.y) = omega (arith, ints) in
    let b2 : FitsSigned w64 (pos 2 *ℤ c.args.b.y) = omega (arith, ints) in
    let h : FitsSigned w64 c.args.h = c.ranges.h in
    let f : FitsSigned w64 c.height_at.result = search rules in
    simp to_z-of_z (simp to_z-of_z at c.height_at.ensures.value)
