-- Sizes of hundredths of a pixel, which fit 64 bits.
use Rattle.std.proofs.Common.{◌≡◌, ℕ, ◌+◌, ◌*◌, ◌^◌, ◌<◌, ◌≤◌, ℤ, pos, negsuc, ◌+ℤ◌, ◌-ℤ◌, ◌*ℤ◌, ◌≤ℤ◌, neg_ℤ}
use Rattle.std.proofs.Common.{unsigned_abs, ap, ◌∙◌, lit<, lit≤, w64, FitsSigned, arith}
use Rattle.std.proofs.Math.Nat.{mul-le-mul, div-le_self}
use Rattle.std.proofs.lemmas.Int.{ints, unsigned_abs-mul, fits_signed_mul, fits_signed_from_abs}
use Rattle.std.specs.Int.{int_div_euclid}
use Rattle.ml_ratio.specs.World.{IsInWorld}
use Rattle.ml_ratio.specs.declared.ratio.Ratio.{Ratio}
use Rattle.ml_answer.specs.Svg.{hundredths}

-- a number between -m and m is at most m in size
pub size_le : (z : ℤ) (m : ℕ) → neg_ℤ (pos m) ≤ℤ z → z ≤ℤ pos m → unsigned_abs z ≤ m
size_le (pos n) m h k = omega (arith, ints)
size_le (negsuc n) m h k = omega (arith, ints)

-- the size of a sum is at most the sum of the sizes
sum_size : (a b : ℤ) (m n : ℕ) → unsigned_abs a ≤ m → unsigned_abs b ≤ n → unsigned_abs (a +ℤ b) ≤ m + n
sum_size (pos a) (pos b) m n h k = size_le (pos a +ℤ pos b) (m + n) (omega (arith, ints)) (omega (arith, ints))
sum_size (pos a) (negsuc b) m n h k = size_le (pos a +ℤ negsuc b) (m + n) (omega (arith, ints)) (omega (arith, ints))
sum_size (negsuc a) (pos b) m n h k = size_le (negsuc a +ℤ pos b) (m + n) (omega (arith, ints)) (omega (arith, ints))
sum_size (negsuc a) (negsuc b) m n h k = size_le (negsuc a +ℤ negsuc b) (m + n) (omega (arith, ints)) (omega (arith, ints))

-- two world coordinates are at most 4,000,000,000 units apart
pub apart : (a b : ℤ) → IsInWorld a → IsInWorld b → unsigned_abs (a -ℤ b) ≤ 4000000000
apart a b aw bw = size_le (a -ℤ b) 4000000000 (omega (arith, ints, aw.0, aw.1, bw.0, bw.1)) (omega (arith, ints, aw.0, aw.1, bw.0, bw.1))

-- a hundred times so many units
pub whole_fits : (units : ℤ) → unsigned_abs units ≤ 4000000000 → FitsSigned w64 (pos 100 *ℤ units)
whole_fits units few = fits_signed_mul w64 (pos 100) units 100 4000000000 (lit≤ tt) few (lit< tt)

-- that times the denominator of a scale
product_size : (units : ℤ) (den : ℕ) → unsigned_abs units ≤ 4000000000 → den ≤ 2 ^ 16 → unsigned_abs (pos 100 *ℤ units *ℤ pos den) < 2 ^ 55
product_size units den few low =
    let size : unsigned_abs (pos 100 *ℤ units *ℤ pos den) ≡ 100 * unsigned_abs units * den =
    unsigned_abs-mul (pos 100 *ℤ units) (pos den) ∙ ap (λ (n : ℕ). n * den) (unsigned_abs-mul (pos 100) units) in
    let factor : 100 * unsigned_abs units ≤ 400000000000 = omega (arith, few) in
    let below : 100 * unsigned_abs units * den ≤ 400000000000 * 2 ^ 16 = mul-le-mul factor low in
    omega (arith, size, below)

-- it fits
pub product_fits : (units : ℤ) (den : ℕ) → unsigned_abs units ≤ 4000000000 → den ≤ 2 ^ 16 → FitsSigned w64 (pos 100 *ℤ units *ℤ pos den)
product_fits units den few low = fits_signed_from_abs w64 (pos 100 *ℤ units *ℤ pos den) (omega (arith, product_size units den few low))

-- a quotient rounded down is at most as large as the number
quotient_size : (p : ℤ) (n m : ℕ) → unsigned_abs p < m → unsigned_abs (int_div_euclid p (pos n)) < m
quotient_size (pos a) n m low = omega (arith, div-le_self a n)
quotient_size (negsuc a) n m low = omega (arith, div-le_self a n)

-- hundredths of so many units
pub hundredths_size : (units : ℤ) (scale : Ratio) → unsigned_abs units ≤ 4000000000 → unsigned_abs (hundredths units scale) < 2 ^ 55
unfolding hundredths
hundredths_size units scale few = quotient_size (pos 100 *ℤ units *ℤ pos scale.den) scale.num (2 ^ 55) (product_size units scale.den few scale.low_den)

-- a hundred times a number of pixels
pub pixels_fit : (z : ℤ) → unsigned_abs z ≤ 2 ^ 32 → FitsSigned w64 (pos 100 *ℤ z)
pixels_fit z few = fits_signed_mul w64 (pos 100) z 100 (2 ^ 32) (lit≤ tt) few (lit< tt)

-- that with hundredths of so many units
pub place_fits : (z units : ℤ) (scale : Ratio) → unsigned_abs z ≤ 2 ^ 32 → unsigned_abs units ≤ 4000000000 → FitsSigned w64 (pos 100 *ℤ z +ℤ hundredths units scale)
place_fits z units scale few apart =
    let size : unsigned_abs (pos 100 *ℤ z) ≡ 100 * unsigned_abs z = unsigned_abs-mul (pos 100) z in
    let below : unsigned_abs (pos 100 *ℤ z) ≤ 100 * 2 ^ 32 = omega (arith, size, few) in
    let other : unsigned_abs (hundredths units scale) ≤ 2 ^ 55 = omega (arith, hundredths_size units scale apart) in
    fits_signed_from_abs w64 (pos 100 *ℤ z +ℤ hundredths units scale) (omega (arith, sum_size (pos 100 *ℤ z) (hundredths units scale) (100 * 2 ^ 32) (2 ^ 55) below other))
