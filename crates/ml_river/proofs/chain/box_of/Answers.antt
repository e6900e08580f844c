use Rattle.std.proofs.Common.{arith, w32, w64, FitsSigned}
use Rattle.std.proofs.lemmas.Int.{ints, to_z-of_z}
use Rattle.ml_cone.specs.Plane.{IsOffset}
use Rattle.ml_river.proofs.chain.box_of.Goals as goal

pub returns-then-is_offset-4 : goal.returns-then-is_offset-4
returns-then-is_offset-4 c =
    let l : FitsSigned w64 c.args.l = c.ranges.l in
    let b : FitsSigned w64 c.args.b = c.ranges.b in
    let r : FitsSigned w64 c.args.r = c.ranges.r in
    let t : FitsSigned w64 c.args.t = c.ranges.t in
    let ol : IsOffset c.args.l = simp to_z-of_z at (c.is_offset.ensures.0 c.if-is_offset.true) in
    let ob : IsOffset c.args.b = simp to_z-of_z at (c.is_offset-then-is_offset.ensures.0 c.if-is_offset-2.true) in
    let or : IsOffset c.args.r = simp to_z-of_z at (c.is_offset-then-is_offset-2.ensures.0 c.if-is_offset-3.true) in
    let ot : IsOffset c.args.t = simp to_z-of_z at (c.is_offset-then-is_offset-3.ensures.0 c.if-is_offset-4.true) in
    let l' : FitsSigned w32 c.args.l = omega (arith, ints, ol.0, ol.1) in
    let b' : FitsSigned w32 c.args.b = omega (arith, ints, ob.0, ob.1) in
    let r' : FitsSigned w32 c.args.r = omega (arith, ints, or.0, or.1) in
    let t' : FitsSigned w32 c.args.t = omega (arith, ints, ot.0, ot.1) in
    record {
      left_is = simp to_z-of_z;
      bottom_is = simp to_z-of_z;
      right_is = simp to_z-of_z;
      top_is = simp to_z-of_z;
      good = ((ol, or, c.requires.across), (ob, ot, c.requires.up));
    }
