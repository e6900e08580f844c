use Rattle.std.proofs.Common.{arith, inl, inr, w64, FitsSigned}
use Rattle.std.proofs.lemmas.Int.{ints, to_z-of_z}
use Rattle.ml_conflict.proofs.lemmas.Strips.{away}
use Rattle.ml_conflict.proofs.area.Side.is_away.Goals as goal

pub returns-then-is_beyond : goal.returns-then-is_beyond
returns-then-is_beyond c is axis low high u on by =
    let self = c.args.self.now in
    let other = c.args.other.now in
    let from_world = self.from_world in
    let to_world = other.to_world in
    let fits_from : FitsSigned w64 self.from = omega (arith, ints) in
    let fits_to : FitsSigned w64 other.to = omega (arith, ints) in
    away axis low high self other u c.args.bound.now on by (inl (simp to_z-of_z at (c.is_beyond.ensures is)))

pub returns-else-is_beyond : goal.returns-else-is_beyond
returns-else-is_beyond c is axis low high u on by =
    let self = c.args.self.now in
    let other = c.args.other.now in
    let from_world = other.from_world in
    let to_world = self.to_world in
    let fits_from : FitsSigned w64 other.from = omega (arith, ints) in
    let fits_to : FitsSigned w64 self.to = omega (arith, ints) in
    away axis low high self other u c.args.bound.now on by (inr (simp to_z-of_z at (c.is_beyond-else-is_beyond.ensures is)))
