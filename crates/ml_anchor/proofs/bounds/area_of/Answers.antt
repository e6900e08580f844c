use Rattle.std.proofs.Common.{◌≡◌, arith, w64, ◌-ℤ◌, ◌*ℤ◌, FitsSigned}
use Rattle.std.proofs.lemmas.Int.{ints, to_z-of_z}
use mir.Syntax.{w128}
use Rattle.ml_anchor.specs.Ring.{box_area}
use Rattle.ml_anchor.proofs.RingLemmas.{area_fits}
use Rattle.ml_anchor.proofs.bounds.area_of.Goals as goal

pub overflow_mul-result : goal.overflow_mul-result
overflow_mul-result c =
    let o = c.bounds_of-bounds.ensures.order in
    let w : FitsSigned w64 c.bounds_of-bounds.result.west = omega (arith, ints, o.west_in) in
    let e : FitsSigned w64 c.bounds_of-bounds.result.east = omega (arith, ints, o.east_in) in
    let s : FitsSigned w64 c.bounds_of-bounds.result.south = omega (arith, ints, o.south_in) in
    let n : FitsSigned w64 c.bounds_of-bounds.result.north = omega (arith, ints, o.north_in) in
    let w' : FitsSigned w128 c.bounds_of-bounds.result.west = omega (arith, ints) in
    let e' : FitsSigned w128 c.bounds_of-bounds.result.east = omega (arith, ints) in
    let s' : FitsSigned w128 c.bounds_of-bounds.result.south = omega (arith, ints) in
    let n' : FitsSigned w128 c.bounds_of-bounds.result.north = omega (arith, ints) in
    let x : FitsSigned w128 (c.bounds_of-bounds.result.east -ℤ c.bounds_of-bounds.result.west) = omega (arith, ints) in
    let y : FitsSigned w128 (c.bounds_of-bounds.result.north -ℤ c.bounds_of-bounds.result.south) = omega (arith, ints) in
    let p = area_fits c.bounds_of-bounds.result.west c.bounds_of-bounds.result.east c.bounds_of-bounds.result.south c.bounds_of-bounds.result.north o.west_in o.east_in o.south_in o.north_in in
    simp to_z-of_z p

pub returns : goal.returns
returns c =
    let m = c.bounds_of-bounds.ensures.bounds in
    let o = c.bounds_of-bounds.ensures.order in
    let w : FitsSigned w64 c.bounds_of-bounds.result.west = omega (arith, ints, o.west_in) in
    let e : FitsSigned w64 c.bounds_of-bounds.result.east = omega (arith, ints, o.east_in) in
    let s : FitsSigned w64 c.bounds_of-bounds.result.south = omega (arith, ints, o.south_in) in
    let n : FitsSigned w64 c.bounds_of-bounds.result.north = omega (arith, ints, o.north_in) in
    let w' : FitsSigned w128 c.bounds_of-bounds.result.west = omega (arith, ints) in
    let e' : FitsSigned w128 c.bounds_of-bounds.result.east = omega (arith, ints) in
    let s' : FitsSigned w128 c.bounds_of-bounds.result.south = omega (arith, ints) in
    let n' : FitsSigned w128 c.bounds_of-bounds.result.north = omega (arith, ints) in
    let x : FitsSigned w128 (c.bounds_of-bounds.result.east -ℤ c.bounds_of-bounds.result.west) = omega (arith, ints) in
    let y : FitsSigned w128 (c.bounds_of-bounds.result.north -ℤ c.bounds_of-bounds.result.south) = omega (arith, ints) in
    let p = area_fits c.bounds_of-bounds.result.west c.bounds_of-bounds.result.east c.bounds_of-bounds.result.south c.bounds_of-bounds.result.north o.west_in o.east_in o.south_in o.north_in in
    let q : (c.bounds_of-bounds.result.east -ℤ c.bounds_of-bounds.result.west) *ℤ (c.bounds_of-bounds.result.north -ℤ c.bounds_of-bounds.result.south) ≡ box_area c.args.ring.now =
    simp (m.west_is, m.east_is, m.south_is, m.north_is) in
    simp to_z-of_z q
