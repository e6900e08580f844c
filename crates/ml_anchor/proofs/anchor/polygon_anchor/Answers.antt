use Rattle.std.proofs.Common.{rules, ◌≡◌, ◌<◌, List, [], length, pos, ◌+ℤ◌, ◌<ℤ◌, ap, ◌∙◌, arith, w64, FitsSigned, true, false}
use Rattle.std.specs.Prelude.{int_lt}
use Rattle.std.proofs.lemmas.Int.{ints, to_z-of_z}
use Rattle.std.proofs.lemmas.List.{get_or_read}
use Rattle.ml_ratio.specs.declared.geometry.Pos.{Pos}
use Rattle.ml_ratio.specs.Floor.{floor}
use Rattle.ml_anchor.specs.Scan.{crossings}
use Rattle.ml_anchor.specs.Pairs.{IsMiddle}
use Rattle.ml_anchor.specs.Anchor.{outer}
use Rattle.ml_anchor.proofs.AnchorLemmas.{flat_anchor, tall_anchor, two_crossings}
use Rattle.ml_anchor.proofs.anchor.polygon_anchor.Goals as goal

pub returns-else-bounds : goal.returns-else-bounds
returns-else-bounds c =
    let o = c.bounds_of-bounds.ensures.order in
    let w : FitsSigned w64 c.bounds_of-bounds.result.west = omega (arith, ints, o.west_in) in
    let e : FitsSigned w64 c.bounds_of-bounds.result.east = omega (arith, ints, o.east_in) in
    let s : FitsSigned w64 c.bounds_of-bounds.result.south = omega (arith, ints, o.south_in) in
    let n : FitsSigned w64 c.bounds_of-bounds.result.north = omega (arith, ints, o.north_in) in
    let some : 0 < length c.as_slice-rings.result.now = rw c.as_slice-rings.ensures c.requires.0 in
    let is : c.as_slice.result.now ≡ outer c.args.rings.now = c.as_slice.ensures
    ∙ (get_or_read c.as_slice-rings.result.now 0 c.index-rings-0.result some c.index-rings-0.is [] ∙ ap (λ (rs : List (List Pos)). outer rs) c.as_slice-rings.ensures) in
    let f : FitsSigned w64 c.half-x.result = search rules in
    let low : int_lt c.bounds_of-bounds.result.south c.bounds_of-bounds.result.north ≡ false = simp to_z-of_z at c.if-bounds.false in
    let x : c.half-x.result ≡ floor (c.bounds_of-bounds.result.west +ℤ c.bounds_of-bounds.result.east) (pos 2) = simp to_z-of_z at c.half-x.ensures.value in
    flat_anchor c.args.rings.now c.as_slice.result.now c.bounds_of-bounds.result.west c.bounds_of-bounds.result.east c.bounds_of-bounds.result.south
    c.bounds_of-bounds.result.north _ is c.bounds_of-bounds.ensures.bounds (grind (arith, ints)) (simp to_z-of_z x) (simp to_z-of_z)

pub widest_middle-requires : goal.widest_middle-requires
widest_middle-requires c =
    let o = c.bounds_of-bounds.ensures.order in
    let w : FitsSigned w64 c.bounds_of-bounds.result.west = omega (arith, ints, o.west_in) in
    let e : FitsSigned w64 c.bounds_of-bounds.result.east = omega (arith, ints, o.east_in) in
    let s : FitsSigned w64 c.bounds_of-bounds.result.south = omega (arith, ints, o.south_in) in
    let n : FitsSigned w64 c.bounds_of-bounds.result.north = omega (arith, ints, o.north_in) in
    let some : 0 < length c.as_slice-rings.result.now = rw c.as_slice-rings.ensures c.requires.0 in
    let is : c.as_slice.result.now ≡ outer c.args.rings.now = c.as_slice.ensures
    ∙ (get_or_read c.as_slice-rings.result.now 0 c.index-rings-0.result some c.index-rings-0.is [] ∙ ap (λ (rs : List (List Pos)). outer rs) c.as_slice-rings.ensures) in
    let sn : FitsSigned w64 (c.bounds_of-bounds.result.south +ℤ c.bounds_of-bounds.result.north) = omega (arith, ints, o.south_in, o.north_in) in
    let high : int_lt c.bounds_of-bounds.result.south c.bounds_of-bounds.result.north ≡ true = simp to_z-of_z at c.if-bounds.true in
    let less : c.bounds_of-bounds.result.south <ℤ c.bounds_of-bounds.result.north = grind (arith, ints) in
    let two = two_crossings c.args.rings.now c.as_slice.result.now c.bounds_of-bounds.result.west c.bounds_of-bounds.result.east
    c.bounds_of-bounds.result.south c.bounds_of-bounds.result.north is c.requires c.bounds_of-bounds.ensures.bounds less in
    simp (to_z-of_z, c.as_slice-rings.ensures) two

pub returns-in_ok-x : goal.returns-in_ok-x
returns-in_ok-x c =
    let o = c.bounds_of-bounds.ensures.order in
    let w : FitsSigned w64 c.bounds_of-bounds.result.west = omega (arith, ints, o.west_in) in
    let e : FitsSigned w64 c.bounds_of-bounds.result.east = omega (arith, ints, o.east_in) in
    let s : FitsSigned w64 c.bounds_of-bounds.result.south = omega (arith, ints, o.south_in) in
    let n : FitsSigned w64 c.bounds_of-bounds.result.north = omega (arith, ints, o.north_in) in
    let some : 0 < length c.as_slice-rings.result.now = rw c.as_slice-rings.ensures c.requires.0 in
    let is : c.as_slice.result.now ≡ outer c.args.rings.now = c.as_slice.ensures
    ∙ (get_or_read c.as_slice-rings.result.now 0 c.index-rings-0.result some c.index-rings-0.is [] ∙ ap (λ (rs : List (List Pos)). outer rs) c.as_slice-rings.ensures) in
    let fx : FitsSigned w64 c.in_ok-x.x = search rules in
    let fy : FitsSigned w64 c.half-y.result = search rules in
    let sn : FitsSigned w64 (c.bounds_of-bounds.result.south +ℤ c.bounds_of-bounds.result.north) = omega (arith, ints, o.south_in, o.north_in) in
    let high : int_lt c.bounds_of-bounds.result.south c.bounds_of-bounds.result.north ≡ true = simp to_z-of_z at c.if-bounds.true in
    let less : c.bounds_of-bounds.result.south <ℤ c.bounds_of-bounds.result.north = grind (arith, ints) in
    let y : c.half-y.result ≡ floor (c.bounds_of-bounds.result.south +ℤ c.bounds_of-bounds.result.north) (pos 2) = simp to_z-of_z at c.half-y.ensures.value in
    let x = c.in_ok-x.ensures.ok in
    let x' : IsMiddle (crossings (c.bounds_of-bounds.result.south +ℤ c.bounds_of-bounds.result.north) c.args.rings.now) c.in_ok-x.x = simp (to_z-of_z, c.as_slice-rings.ensures) at x in
    tall_anchor c.args.rings.now c.as_slice.result.now c.bounds_of-bounds.result.west c.bounds_of-bounds.result.east c.bounds_of-bounds.result.south
    c.bounds_of-bounds.result.north _ is c.bounds_of-bounds.ensures.bounds less (simp to_z-of_z x') (simp to_z-of_z y)
