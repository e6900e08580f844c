use Rattle.std.proofs.Common.{◌+◌, ◌*◌, ◌-ℤ◌, arith, w64, FitsSigned}
use Rattle.std.proofs.lemmas.Bool.{leb-true}
use Rattle.std.proofs.lemmas.Int.{ints, to_z-of_z}
use Rattle.ml_conflict.proofs.far.is_far.Goals as goal

pub returns : goal.returns
returns c is =
    let wa = c.requires.a_in_world in
    let wb = c.requires.b_in_world in
    let fa : FitsSigned w64 c.args.a = c.ranges.a in
    let fb : FitsSigned w64 c.args.b = c.ranges.b in
    let fd : FitsSigned w64 (c.args.a -ℤ c.args.b) = omega (arith, ints) in
    let way = simp to_z-of_z at c.unsigned_abs.ensures.value in
    rw (c.num.ensures, c.den.ensures, way) at (leb-true (c.args.pixels * (c.num.result + 1)) (c.unsigned_abs.result * c.den.result) is)
