-- Heights on straight lines as the code reckons them.
use Rattle.std.proofs.Common.{◌≡◌, ℕ, ◌+◌, ◌*◌, ◌≤◌, ◌^◌, ℤ, pos, negsuc, ◌+ℤ◌, ◌-ℤ◌, ◌*ℤ◌, ◌<ℤ◌, ◌≤ℤ◌, neg_ℤ, ap, lit<, w64, FitsSigned, arith}
use Rattle.std.proofs.lemmas.Int.{ints, fits_signed_mul}
use mir.Syntax.{w128}
use Rattle.ml_ratio.specs.World.{IsInWorld}
use Rattle.ml_ratio.specs.Floor.{floor, height_on}
use Rattle.ml_ratio.proofs.lemmas.Rounding.{floor_bounds, plus_one, size_le, height_in_world}

-- the product of a difference of heights and a difference of places fits 128 bits
pub climb_fits : (u v z t : ℤ) → IsInWorld v → IsInWorld z → FitsSigned w64 u → FitsSigned w64 t → FitsSigned w128 ((z -ℤ v) *ℤ (t -ℤ u))
climb_fits u v z t vw zw uf tf =
    fits_signed_mul w128 (z -ℤ v) (t -ℤ u) (2 ^ 33) (2 ^ 65) (size_le (z -ℤ v) (2 ^ 33) (omega (arith, ints)) (omega (arith, ints)))
    (size_le (t -ℤ u) (2 ^ 65) (omega (arith, ints)) (omega (arith, ints))) (lit< tt)

-- the height from its rise
pub height_from_rise : (u v w z t r : ℤ) → r ≡ floor ((z -ℤ v) *ℤ (t -ℤ u)) (w -ℤ u) → v +ℤ r ≡ height_on u v w z t
unfolding height_on
height_from_rise u v w z t r e = ap (λ (x : ℤ). v +ℤ x) e

-- the numbers that a height is computed from fit the code's integers
pub record HeightFits (u v w z t : ℤ) : Type 0 where
  pub u_narrow : FitsSigned w64 u
  pub v_narrow : FitsSigned w64 v
  pub w_narrow : FitsSigned w64 w
  pub z_narrow : FitsSigned w64 z
  pub t_narrow : FitsSigned w64 t
  pub u_wide : FitsSigned w128 u
  pub v_wide : FitsSigned w128 v
  pub w_wide : FitsSigned w128 w
  pub z_wide : FitsSigned w128 z
  pub t_wide : FitsSigned w128 t
  pub climb : FitsSigned w128 (z -ℤ v)
  pub along : FitsSigned w128 (t -ℤ u)
  pub whole : FitsSigned w128 (w -ℤ u)
  pub product : FitsSigned w128 ((z -ℤ v) *ℤ (t -ℤ u))

-- they do
pub inputs_fit : (u v w z t : ℤ) → IsInWorld v → IsInWorld z → FitsSigned w64 u → FitsSigned w64 w → FitsSigned w64 t → HeightFits u v w z t
inputs_fit u v w z t vw zw uf wf tf =
    record {
      u_narrow = uf;
      v_narrow = omega (arith, ints, vw.0, vw.1);
      w_narrow = wf;
      z_narrow = omega (arith, ints, zw.0, zw.1);
      t_narrow = tf;
      u_wide = omega (arith, ints);
      v_wide = omega (arith, ints, vw.0, vw.1);
      w_wide = omega (arith, ints);
      z_wide = omega (arith, ints, zw.0, zw.1);
      t_wide = omega (arith, ints);
      climb = omega (arith, ints, vw.0, vw.1, zw.0, zw.1);
      along = omega (arith, ints);
      whole = omega (arith, ints);
      product = climb_fits u v z t vw zw uf tf;
    }

-- what follows from the rise
pub record IsRise (u v w z t r : ℤ) : Type 0 where
  pub height : v +ℤ r ≡ height_on u v w z t
  pub world : IsInWorld (v +ℤ r)
  pub rise_wide : FitsSigned w128 r
  pub sum_wide : FitsSigned w128 (v +ℤ r)
  pub sum_narrow : FitsSigned w64 (v +ℤ r)

fits_from_world : (v r : ℤ) → IsInWorld v → IsInWorld (v +ℤ r) → FitsSigned w128 r
fits_from_world v r a b = omega (arith, ints, a.0, a.1, b.0, b.1)

wide_from_world : (s : ℤ) → IsInWorld s → FitsSigned w128 s
wide_from_world s a = omega (arith, ints, a.0, a.1)

narrow_from_world : (s : ℤ) → IsInWorld s → FitsSigned w64 s
narrow_from_world s a = omega (arith, ints, a.0, a.1)

-- a rise that is such a floor
pub rise_is : (u v w z t r : ℤ) → u ≤ℤ t → t ≤ℤ w → u <ℤ w → IsInWorld v → IsInWorld z → r ≡ floor ((z -ℤ v) *ℤ (t -ℤ u)) (w -ℤ u) → IsRise u v w z t r
rise_is u v w z t r h k apart vw zw e =
    let s = height_from_rise u v w z t r e in
    let b = height_in_world u v w z t h k apart vw zw in
    let i : IsInWorld (v +ℤ r) = rw s b in
    record {
      height = s;
      world = i;
      rise_wide = fits_from_world v r vw i;
      sum_wide = wide_from_world (v +ℤ r) i;
      sum_narrow = narrow_from_world (v +ℤ r) i;
    }

-- the floor times the divisor is at most the number, and the next whole number times it is above
pub floors : (p d : ℤ) → pos 0 <ℤ d → ((floor p d *ℤ d) ≤ℤ p) × (p <ℤ ((floor p d +ℤ pos 1) *ℤ d))
floors p (pos n) h =
    let b = floor_bounds p (pos n) h in
    let e = plus_one (floor p (pos n)) n in
    (b.0, rw e b.1)
floors p (negsuc n) h = absurd (omega (arith, ints))
