-- Whole numbers: products with a natural number, quotients rounded down, and heights on straight lines.
use Rattle.std.proofs.Common.{◌≡◌, ℕ, ◌+◌, ◌-◌, ◌*◌, ◌<◌, ◌≤◌, ◌^◌, ℤ, pos, negsuc, ◌+ℤ◌, ◌-ℤ◌, ◌*ℤ◌, ◌<ℤ◌, ◌≤ℤ◌, neg_ℤ, nat_abs, zero, suc, ap, arith}
use Rattle.std.proofs.Math.Nat.{mul-le-mul_right}
use Rattle.std.proofs.lemmas.Int.{ints, by_lt_z}
use borrow.Author.Differences.{up, down, sum_is_lem}
use Rattle.std.specs.Int.{int_div_euclid}
use Rattle.ml_ratio.specs.World.{IsInWorld}
use Rattle.ml_ratio.specs.Floor.{floor, height_on}

-- both sides of an order times a natural number
pub scaled_le : (x y : ℤ) (n : ℕ) → x ≤ℤ y → (x *ℤ pos n) ≤ℤ (y *ℤ pos n)
scaled_le x y n h =
    let k : up x + down y ≤ up y + down x = omega (arith, ints) in
    let e : (up x + down y) * n ≤ (up y + down x) * n = mul-le-mul_right n k in
    omega (arith, ints)

-- an order with a common positive factor
pub unscaled_lt : (x y : ℤ) (n : ℕ) → (x *ℤ pos n) <ℤ (y *ℤ pos n) → x <ℤ y
unscaled_lt x y n h =
    by_lt_z x y (λ k. k) (λ k. let e : (y *ℤ pos n) ≤ℤ (x *ℤ pos n) = scaled_le y x n k in absurd (omega (arith, ints)))

-- a sum times a natural number
pub sum_scaled : (x y : ℤ) (n : ℕ) → ((x +ℤ y) *ℤ pos n) ≡ ((x *ℤ pos n) +ℤ (y *ℤ pos n))
sum_scaled x y n =
    let e : (up (x +ℤ y) + down x + down y) * n ≡ (down (x +ℤ y) + up x + up y) * n = ap (λ (t : ℕ). t * n) (sum_is_lem x y) in
    omega (arith, ints)

-- what is not positive shrinks with the factor
pub shrinks : (x : ℤ) (n k : ℕ) → x ≤ℤ pos 0 → (x *ℤ pos (n + k)) ≤ℤ (x *ℤ pos n)
shrinks x n k h =
    let e : (x *ℤ pos k) ≤ℤ (pos 0 *ℤ pos k) = scaled_le x (pos 0) k h in
    omega (arith, ints)

quotient : (p : ℤ) (n : ℕ) → ((int_div_euclid p (pos (suc n)) *ℤ pos (suc n)) ≤ℤ p) × (p <ℤ ((int_div_euclid p (pos (suc n)) *ℤ pos (suc n)) +ℤ pos (suc n)))
quotient (pos a) n = (omega (arith, ints), omega (arith, ints))
quotient (negsuc a) n = (omega (arith, ints), omega (arith, ints))

-- the floor times the divisor is at most the number, and one floor more is above it
pub floor_bounds : (p d : ℤ) → pos 0 <ℤ d → ((floor p d *ℤ d) ≤ℤ p) × (p <ℤ ((floor p d *ℤ d) +ℤ d))
unfolding floor
floor_bounds p (pos zero) h = absurd (omega (arith, ints))
floor_bounds p (pos (suc n)) h = quotient p n
floor_bounds p (negsuc n) h = absurd (omega (arith, ints))

-- one more times a number
pub plus_one : (x : ℤ) (n : ℕ) → ((x +ℤ pos 1) *ℤ pos n) ≡ (x *ℤ pos n) +ℤ pos n
plus_one x n =
    let e : up (x +ℤ pos 1) + down x ≡ down (x +ℤ pos 1) + up x + 1 = omega (arith, ints) in
    omega (arith, ints, ap (λ (t : ℕ). t * n) e)

-- a quotient rounded down times its divisor is at most the number
pub quotient_low : (p : ℤ) (n : ℕ) → 0 < n → (int_div_euclid p (pos n) *ℤ pos n) ≤ℤ p
quotient_low p zero h = absurd (omega arith)
quotient_low p (suc n) h = (quotient p n).0

-- and one more times it is above the number
pub quotient_high : (p : ℤ) (n : ℕ) → 0 < n → p <ℤ ((int_div_euclid p (pos n) +ℤ pos 1) *ℤ pos n)
quotient_high p zero h = absurd (omega arith)
quotient_high p (suc n) h = let b = (quotient p n).1 in let e = plus_one (int_div_euclid p (pos (suc n))) (suc n) in omega (arith, ints, b, e)

-- of two stretches of one length, p begins at or below a place that q ends above
pub stretch_le : (p q t v : ℤ) (n : ℕ) → (p *ℤ pos n) ≤ℤ t → t ≤ℤ v → v <ℤ ((q +ℤ pos 1) *ℤ pos n) → p ≤ℤ q
stretch_le p q t v n h i j =
    let l : (p *ℤ pos n) <ℤ ((q +ℤ pos 1) *ℤ pos n) = omega (arith, ints) in
    let s : p <ℤ (q +ℤ pos 1) = unscaled_lt p (q +ℤ pos 1) n l in
    omega (arith, ints)

-- what is at most the fraction is at most its floor
pub floor_least : (p d lo : ℤ) → pos 0 <ℤ d → (lo *ℤ d) ≤ℤ p → lo ≤ℤ floor p d
floor_least p (pos n) lo h k =
    by_lt_z (floor p (pos n)) lo (λ less.
    let b = floor_bounds p (pos n) h in
    let e : ((floor p (pos n) +ℤ pos 1) *ℤ pos n) ≤ℤ (lo *ℤ pos n) = scaled_le (floor p (pos n) +ℤ pos 1) lo n (omega (arith, ints)) in
    let f : ((floor p (pos n) +ℤ pos 1) *ℤ pos n) ≡ (floor p (pos n) *ℤ pos n) +ℤ pos n = plus_one (floor p (pos n)) n in
    absurd (omega (arith, ints, b.0, b.1)))
    (λ more. more)
floor_least p (negsuc n) lo h k = absurd (omega (arith, ints))

-- the floor of what is at most a whole number is at most that number
pub floor_most : (p d hi : ℤ) → pos 0 <ℤ d → p ≤ℤ (hi *ℤ d) → floor p d ≤ℤ hi
floor_most p (pos n) hi h k =
    by_lt_z hi (floor p (pos n)) (λ less.
    let b = floor_bounds p (pos n) h in
    let e : ((hi +ℤ pos 1) *ℤ pos n) ≤ℤ (floor p (pos n) *ℤ pos n) = scaled_le (hi +ℤ pos 1) (floor p (pos n)) n (omega (arith, ints)) in
    let f : ((hi +ℤ pos 1) *ℤ pos n) ≡ (hi *ℤ pos n) +ℤ pos n = plus_one hi n in
    absurd (omega (arith, ints, b.0, b.1)))
    (λ more. more)
floor_most p (negsuc n) hi h k = absurd (omega (arith, ints))

-- l * d is at most c * a, where l is at most c and at most 0, and a is from 0 to d
within_low : (l c a d : ℤ) → pos 0 ≤ℤ a → a ≤ℤ d → l ≤ℤ pos 0 → l ≤ℤ c → (l *ℤ d) ≤ℤ (c *ℤ a)
within_low l c (pos n) (pos m) h k nl lc =
    let e = shrinks l n (m - n) nl in
    let s : n + (m - n) ≡ m = omega (arith, ints) in
    let e' : (l *ℤ pos m) ≤ℤ (l *ℤ pos n) = rw s at e in
    let f = scaled_le l c n lc in
    omega (arith, ints, e', f)
within_low l c (pos n) (negsuc m) h k nl lc = absurd (omega (arith, ints))
within_low l c (negsuc n) d h k nl lc = absurd (omega (arith, ints))

-- c * a is at most l * d, where c is at most l, l is not negative, and a is from 0 to d
within_high : (l c a d : ℤ) → pos 0 ≤ℤ a → a ≤ℤ d → pos 0 ≤ℤ l → c ≤ℤ l → (c *ℤ a) ≤ℤ (l *ℤ d)
within_high l c (pos n) (pos m) h k nl lc =
    let g : (pos 0 *ℤ pos (m - n)) ≤ℤ (l *ℤ pos (m - n)) = scaled_le (pos 0) l (m - n) nl in
    let s : n + (m - n) ≡ m = omega (arith, ints) in
    let e : (l *ℤ pos n) ≤ℤ (l *ℤ pos (n + (m - n))) = omega (arith, ints, g) in
    let e' : (l *ℤ pos n) ≤ℤ (l *ℤ pos m) = rw s at e in
    let f = scaled_le c l n lc in
    omega (arith, ints, e', f)
within_high l c (pos n) (negsuc m) h k nl lc = absurd (omega (arith, ints))
within_high l c (negsuc n) d h k nl lc = absurd (omega (arith, ints))

-- a height between two others lies between them
pub height_within : (u v w z t lo hi : ℤ) → u ≤ℤ t → t ≤ℤ w → u <ℤ w → lo ≤ℤ v → lo ≤ℤ z → v ≤ℤ hi → z ≤ℤ hi → (lo ≤ℤ height_on u v w z t) × (height_on u v w z t ≤ℤ hi)
unfolding height_on
height_within u v w z t lo hi h k apart lv lz vh zh =
    let positive : pos 0 <ℤ (w -ℤ u) = omega (arith, ints) in
    let a : pos 0 ≤ℤ (t -ℤ u) = omega (arith, ints) in
    let b : (t -ℤ u) ≤ℤ (w -ℤ u) = omega (arith, ints) in
    let low = within_low (lo -ℤ v) (z -ℤ v) (t -ℤ u) (w -ℤ u) a b (omega (arith, ints)) (omega (arith, ints)) in
    let high = within_high (hi -ℤ v) (z -ℤ v) (t -ℤ u) (w -ℤ u) a b (omega (arith, ints)) (omega (arith, ints)) in
    let f = floor_least _ _ _ positive low in
    let g = floor_most _ _ _ positive high in
    (omega (arith, ints, f), omega (arith, ints, g))

-- a number between -m and m is at most m in size
pub size_le : (z : ℤ) (m : ℕ) → neg_ℤ (pos m) ≤ℤ z → z ≤ℤ pos m → nat_abs z ≤ m
size_le (pos n) m h k = omega (arith, ints)
size_le (negsuc n) m h k = omega (arith, ints)

-- between two world coordinates all is in the world
pub height_in_world : (u v w z t : ℤ) → u ≤ℤ t → t ≤ℤ w → u <ℤ w → IsInWorld v → IsInWorld z → IsInWorld (height_on u v w z t)
height_in_world u v w z t h k apart vw zw = height_within u v w z t (negsuc 1999999999) (pos 2000000000) h k apart vw.0 zw.0 vw.1 zw.1
