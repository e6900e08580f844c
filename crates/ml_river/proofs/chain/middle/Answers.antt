use Rattle.std.proofs.Common.{◌≡◌, ◌^◌, ◌<◌, ℤ, pos, ◌+ℤ◌, ◌*ℤ◌, ◌<ℤ◌, ◌≤ℤ◌, ap, arith, w64, FitsSigned}
use Rattle.std.proofs.lemmas.Int.{ints, to_z-of_z}
use mir.Syntax.{w128}
use Rattle.ml_ratio.specs.Floor.{floor}
use Rattle.ml_river.proofs.ChainLemmas.{doubled_fits, half_fits}
use Rattle.ml_river.proofs.chain.middle.Goals as goal

pub overflow_mul-doubled : goal.overflow_mul-doubled
overflow_mul-doubled c =
    let l : FitsSigned w64 c.args.l = c.ranges.l in
    let r : FitsSigned w64 c.args.r = c.ranges.r in
    let l' : FitsSigned w128 c.args.l = omega (arith, ints) in
    let r' : FitsSigned w128 c.args.r = omega (arith, ints) in
    let s : FitsSigned w128 (c.args.l +ℤ c.args.r) = omega (arith, ints) in
    let k : c.args.class.scale_ref < 2 ^ 32 = omega (arith, c.args.class.reference_in.1) in
    let ref : FitsSigned w128 (pos c.args.class.scale_ref) = omega (arith, ints) in
    let p = doubled_fits c.args.l c.args.r c.args.class.scale_ref l r k in
    simp (to_z-of_z, c.from.ensures) p

pub overflow_add-result : goal.overflow_add-result
overflow_add-result c =
    let l : FitsSigned w64 c.args.l = c.ranges.l in
    let r : FitsSigned w64 c.args.r = c.ranges.r in
    let l' : FitsSigned w128 c.args.l = omega (arith, ints) in
    let r' : FitsSigned w128 c.args.r = omega (arith, ints) in
    let s : FitsSigned w128 (c.args.l +ℤ c.args.r) = omega (arith, ints) in
    let k : c.args.class.scale_ref < 2 ^ 32 = omega (arith, c.args.class.reference_in.1) in
    let ref : FitsSigned w128 (pos c.args.class.scale_ref) = omega (arith, ints) in
    let p = doubled_fits c.args.l c.args.r c.args.class.scale_ref l r k in
    let e : c.floor_of.result ≡ floor ((c.args.l +ℤ c.args.r) *ℤ pos c.args.class.scale_ref) (pos 2) = simp (to_z-of_z, c.from.ensures) at c.floor_of.ensures.value in
    let b : ((c.floor_of.result *ℤ pos 2) ≤ℤ ((c.args.l +ℤ c.args.r) *ℤ pos c.args.class.scale_ref))
    × (((c.args.l +ℤ c.args.r) *ℤ pos c.args.class.scale_ref) <ℤ ((c.floor_of.result +ℤ pos 1) *ℤ pos 2)) =
    simp (to_z-of_z, c.from.ensures) at c.floor_of.ensures.bounds in
    let h = half_fits c.args.x c.args.l c.args.r c.floor_of.result c.args.class.scale_ref c.requires.world l r k b.0 b.1 in
    let x : FitsSigned w64 c.args.x = c.ranges.x in
    let x' : FitsSigned w128 c.args.x = omega (arith, ints) in
    let f : FitsSigned w128 c.floor_of.result = h.half in
    let m : FitsSigned w128 (c.args.x +ℤ c.floor_of.result) = h.middle in
    simp to_z-of_z m

pub returns : goal.returns
returns c =
    let l : FitsSigned w64 c.args.l = c.ranges.l in
    let r : FitsSigned w64 c.args.r = c.ranges.r in
    let l' : FitsSigned w128 c.args.l = omega (arith, ints) in
    let r' : FitsSigned w128 c.args.r = omega (arith, ints) in
    let s : FitsSigned w128 (c.args.l +ℤ c.args.r) = omega (arith, ints) in
    let k : c.args.class.scale_ref < 2 ^ 32 = omega (arith, c.args.class.reference_in.1) in
    let ref : FitsSigned w128 (pos c.args.class.scale_ref) = omega (arith, ints) in
    let p = doubled_fits c.args.l c.args.r c.args.class.scale_ref l r k in
    let e : c.floor_of.result ≡ floor ((c.args.l +ℤ c.args.r) *ℤ pos c.args.class.scale_ref) (pos 2) = simp (to_z-of_z, c.from.ensures) at c.floor_of.ensures.value in
    let b : ((c.floor_of.result *ℤ pos 2) ≤ℤ ((c.args.l +ℤ c.args.r) *ℤ pos c.args.class.scale_ref))
    × (((c.args.l +ℤ c.args.r) *ℤ pos c.args.class.scale_ref) <ℤ ((c.floor_of.result +ℤ pos 1) *ℤ pos 2)) =
    simp (to_z-of_z, c.from.ensures) at c.floor_of.ensures.bounds in
    let h = half_fits c.args.x c.args.l c.args.r c.floor_of.result c.args.class.scale_ref c.requires.world l r k b.0 b.1 in
    let x : FitsSigned w64 c.args.x = c.ranges.x in
    let x' : FitsSigned w128 c.args.x = omega (arith, ints) in
    let f : FitsSigned w128 c.floor_of.result = h.half in
    let m : FitsSigned w128 (c.args.x +ℤ c.floor_of.result) = h.middle in
    simp to_z-of_z (ap (λ (z : ℤ). c.args.x +ℤ z) e)
