use lib.Signed.{shr_z}
use Rattle.std.proofs.Common.{ℕ, ◌≡◌, ◌/◌, ◌+◌, ◌<◌, ◌^◌, ◌≤◌, ◌≤ℤ◌, arith, rules, w32, w64, ℤ, pos, negsuc, ◌+ℤ◌, ◌*ℤ◌, FitsSigned, ap}
use Rattle.std.specs.Int.{int_div_euclid}
use Rattle.std.proofs.Math.Nat.{pow-le-pow_right}
use Rattle.std.proofs.lemmas.Int.{ints, to_z-of_z}
use Rattle.std.proofs.lemmas.Nat.{mul-le, pow-add}
use borrow.Author.Differences.{up, down}
use Rattle.ml_ratio.specs.World.{IsInWorld}
use Rattle.ml_ratio.proofs.lemmas.Rounding.{quotient_low, quotient_high, stretch_le}
use Rattle.ml_cone.specs.Cells.{cell_side}
use Rattle.ml_cone.specs.Plane.{IsReach}
use Rattle.ml_cone.proofs.reach.column.Goals as goal

reach_bound : (u : ℤ) → IsReach u → (up u ≤ 2048) × (down u ≤ 2048)
reach_bound (pos n) h = omega (arith, ints)
reach_bound (negsuc n) h = omega (arith, ints)

world_bound : (x : ℤ) → IsInWorld x → (up x ≤ 2000000000) × (down x ≤ 2000000000)
world_bound (pos n) h = omega (arith, ints)
world_bound (negsuc n) h = omega (arith, ints)

offset_fits : (u : ℤ) (p : ℕ) → IsReach u → p ≤ 2 ^ 28 → FitsSigned w64 (u *ℤ pos p)
offset_fits u p k q =
    let bu = reach_bound u k in
    omega (arith, ints, mul-le (up u) p 2048 (2 ^ 28) bu.0 q, mul-le (down u) p 2048 (2 ^ 28) bu.1 q)

place_fits : (x u : ℤ) (p : ℕ) → IsInWorld x → IsReach u → p ≤ 2 ^ 28 → FitsSigned w64 (x +ℤ (u *ℤ pos p))
place_fits x u p h k q =
    let bx = world_bound x h in
    let bu = reach_bound u k in
    omega (arith, ints, mul-le (up u) p 2048 (2 ^ 28) bu.0 q, mul-le (down u) p 2048 (2 ^ 28) bu.1 q)

wide_fits : (u : ℤ) → IsReach u → FitsSigned w64 u
wide_fits u k = omega (arith, ints, reach_bound u k)

pixel_low : (k : ℕ) → k ≤ 27 → 2 ^ (k + 1) ≤ 2 ^ 28
pixel_low k h = let e : k + 1 ≤ 28 = omega arith in pow-le-pow_right (omega arith) e

-- a place so near lies in a column that fits in 32 bits
column_fits : (p : ℤ) (n : ℕ) → 1024 ≤ n → negsuc 1099511627775 ≤ℤ p → p ≤ℤ pos 1099511627776 → FitsSigned w32 (int_div_euclid p (pos n))
column_fits p n wide low high =
    let q = int_div_euclid p (pos n) in
    let some : 0 < n = omega arith in
    let most : q ≤ℤ pos 2147483647 = stretch_le q (pos 2147483647) p p n (quotient_low p n some) (omega (arith, ints)) (omega (arith, ints)) in
    let least : negsuc 2147483647 ≤ℤ q = stretch_le (negsuc 2147483647) q p p n (omega (arith, ints)) (omega (arith, ints)) (quotient_high p n some) in
    omega (arith, ints)

place_near : (x u : ℤ) (p : ℕ) → IsInWorld x → IsReach u → p ≤ 2 ^ 28 → (negsuc 1099511627775 ≤ℤ (x +ℤ (u *ℤ pos p))) × ((x +ℤ (u *ℤ pos p)) ≤ℤ pos 1099511627776)
place_near x u p h k q =
    let bx = world_bound x h in
    let bu = reach_bound u k in
    let up' = mul-le (up u) p 2048 (2 ^ 28) bu.0 q in
    let down' = mul-le (down u) p 2048 (2 ^ 28) bu.1 q in
    (omega (arith, ints, up', down'), omega (arith, ints, up', down'))

side_is : (k : ℕ) → 2 ^ (k + 10) ≡ cell_side k
side_is k = let e = pow-add 2 k 10 in omega arith

side_wide : (k : ℕ) → 1024 ≤ cell_side k
side_wide k = let least : 0 ≤ k = omega arith in let some : 2 ^ 0 ≤ 2 ^ k = pow-le-pow_right (omega arith) least in omega arith

-- a shift by the bits of a cell's side is a division by it, rounded down
shifted_is : (p : ℤ) (k : ℕ) → shr_z p (2 ^ (k + 10)) ≡ int_div_euclid p (pos (cell_side k))
shifted_is (pos n) k = ap (λ m. pos (n / m)) (side_is k)
shifted_is (negsuc n) k = ap (λ m. negsuc (n / m)) (side_is k)

shifted_fits : (x u : ℤ) (k j : ℕ) → IsInWorld x → IsReach u → k ≤ 27 → FitsSigned w32 (shr_z (x +ℤ (u *ℤ pos (2 ^ (k + 1)))) (2 ^ (j + 10)))
shifted_fits x u k j h r low =
    let near = place_near x u (2 ^ (k + 1)) h r (pixel_low k low) in
    rw (shifted_is (x +ℤ (u *ℤ pos (2 ^ (k + 1)))) j) (column_fits _ (cell_side j) (side_wide j) near.0 near.1)

wider : (q : ℤ) → FitsSigned w32 q → FitsSigned w64 q
wider (pos n) h = omega (arith, ints)
wider (negsuc n) h = omega (arith, ints)

pub overflow_mul-offset : goal.overflow_mul-offset
overflow_mul-offset c =
    let fu : FitsSigned w32 c.args.u = c.ranges.u in
    let fw : FitsSigned w64 c.args.u = wide_fits c.args.u c.requires.u_in_reach in
    let fp : FitsSigned w64 c.pixel_of.result = search rules in
    simp to_z-of_z (rw (c.pixel_of.ensures) (offset_fits c.args.u (2 ^ (c.args.band + 1)) c.requires.u_in_reach (pixel_low c.args.band c.requires.low_band)))

pub overflow_add-place : goal.overflow_add-place
overflow_add-place c =
    let fx : FitsSigned w64 c.args.x = c.ranges.x in
    let fu : FitsSigned w32 c.args.u = c.ranges.u in
    let fw : FitsSigned w64 c.args.u = wide_fits c.args.u c.requires.u_in_reach in
    let fp : FitsSigned w64 c.pixel_of.result = search rules in
    let fo : FitsSigned w64 (c.args.u *ℤ c.pixel_of.result) =
    rw (c.pixel_of.ensures) (offset_fits c.args.u (2 ^ (c.args.band + 1)) c.requires.u_in_reach (pixel_low c.args.band c.requires.low_band)) in
    simp to_z-of_z (rw (c.pixel_of.ensures) (place_fits c.args.x c.args.u (2 ^ (c.args.band + 1)) c.requires.x_in_world c.requires.u_in_reach (pixel_low c.args.band c.requires.low_band)))

pub overflow_cast-result : goal.overflow_cast-result
overflow_cast-result c =
    let fx : FitsSigned w64 c.args.x = c.ranges.x in
    let fu : FitsSigned w32 c.args.u = c.ranges.u in
    let fw : FitsSigned w64 c.args.u = wide_fits c.args.u c.requires.u_in_reach in
    let fp : FitsSigned w64 c.pixel_of.result = search rules in
    let low = pixel_low c.args.band c.requires.low_band in
    let fo : FitsSigned w64 (c.args.u *ℤ c.pixel_of.result) = rw (c.pixel_of.ensures) (offset_fits c.args.u (2 ^ (c.args.band + 1)) c.requires.u_in_reach low) in
    let fq : FitsSigned w64 (c.args.x +ℤ (c.args.u *ℤ c.pixel_of.result)) =
    rw (c.pixel_of.ensures) (place_fits c.args.x c.args.u (2 ^ (c.args.band + 1)) c.requires.x_in_world c.requires.u_in_reach low) in
    let narrow : FitsSigned w32 (shr_z (c.args.x +ℤ (c.args.u *ℤ c.pixel_of.result)) (2 ^ (c.args.cells + 10))) =
    rw (c.pixel_of.ensures) (shifted_fits c.args.x c.args.u c.args.band c.args.cells c.requires.x_in_world c.requires.u_in_reach c.requires.low_band) in
    let fs : FitsSigned w64 (shr_z (c.args.x +ℤ (c.args.u *ℤ c.pixel_of.result)) (2 ^ (c.args.cells + 10))) = wider _ narrow in
    simp to_z-of_z narrow

pub returns : goal.returns
returns c =
    let fx : FitsSigned w64 c.args.x = c.ranges.x in
    let fu : FitsSigned w32 c.args.u = c.ranges.u in
    let fw : FitsSigned w64 c.args.u = wide_fits c.args.u c.requires.u_in_reach in
    let fp : FitsSigned w64 c.pixel_of.result = search rules in
    let low = pixel_low c.args.band c.requires.low_band in
    let fo : FitsSigned w64 (c.args.u *ℤ c.pixel_of.result) = rw (c.pixel_of.ensures) (offset_fits c.args.u (2 ^ (c.args.band + 1)) c.requires.u_in_reach low) in
    let fq : FitsSigned w64 (c.args.x +ℤ (c.args.u *ℤ c.pixel_of.result)) =
    rw (c.pixel_of.ensures) (place_fits c.args.x c.args.u (2 ^ (c.args.band + 1)) c.requires.x_in_world c.requires.u_in_reach low) in
    let narrow : FitsSigned w32 (shr_z (c.args.x +ℤ (c.args.u *ℤ c.pixel_of.result)) (2 ^ (c.args.cells + 10))) =
    rw (c.pixel_of.ensures) (shifted_fits c.args.x c.args.u c.args.band c.args.cells c.requires.x_in_world c.requires.u_in_reach c.requires.low_band) in
    let fs : FitsSigned w64 (shr_z (c.args.x +ℤ (c.args.u *ℤ c.pixel_of.result)) (2 ^ (c.args.cells + 10))) = wider _ narrow in
    simp to_z-of_z (rw c.pixel_of.ensures (shifted_is (c.args.x +ℤ (c.args.u *ℤ pos (2 ^ (c.args.band + 1)))) c.args.cells))
