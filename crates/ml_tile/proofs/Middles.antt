-- Where the middles of tiles lie, and how large they are.
use Rattle.std.proofs.Common.{ℕ, ◌+◌, ◌*◌, ◌^◌, ◌≤◌, ℤ, pos, negsuc, ◌+ℤ◌, ◌*ℤ◌, ◌≤ℤ◌, arith, w64, FitsSigned, inl, inr}
use Rattle.std.proofs.Math.Nat.{pow-le-pow_right}
use Rattle.std.proofs.lemmas.Bool.{cases_lt}
use Rattle.std.proofs.lemmas.Int.{ints}
use Rattle.std.proofs.lemmas.Nat.{mul-le, pow_pos}
use borrow.Author.Differences.{up, down}
use Rattle.ml_ratio.specs.World.{IsInWorld}
use Rattle.ml_tile.specs.Place.{IsNear}

-- the middle of column i of tiles with half a side of p units
abbrev pub middle_of : ℤ → ℕ → ℤ
middle_of i p = ((pos 2 *ℤ i) +ℤ pos 1) *ℤ pos p

-- half a side of a tile that is at most 21 deep is at most 2^30 units
pub half_low : (z : ℕ) → z ≤ 21 → 512 * 2 ^ z ≤ 2 ^ 30
half_low z h = let p : 2 ^ z ≤ 2 ^ 21 = pow-le-pow_right (omega arith) h in omega arith

-- half a side of a tile is at least 512 units
pub half_some : (z : ℕ) → 512 ≤ 512 * 2 ^ z
half_some z = let p : 1 ≤ 2 ^ z = pow_pos z in omega arith

-- a number between these bounds
bounded : (u : ℤ) → negsuc 4000000 ≤ℤ u → u ≤ℤ pos 4000001 → (up u ≤ 4000001) × (down u ≤ 4000001)
bounded (pos n) h k = omega (arith, ints)
bounded (negsuc n) h k = omega (arith, ints)

odd_bound : (i : ℤ) → IsNear i → (up ((pos 2 *ℤ i) +ℤ pos 1) ≤ 4000001) × (down ((pos 2 *ℤ i) +ℤ pos 1) ≤ 4000001)
odd_bound i h = bounded ((pos 2 *ℤ i) +ℤ pos 1) (omega (arith, ints)) (omega (arith, ints))

-- for a column i that is near, 2 i + 1 fits in a signed word
pub odd_fits : (i : ℤ) → IsNear i → FitsSigned w64 ((pos 2 *ℤ i) +ℤ pos 1)
odd_fits i h = omega (arith, ints, odd_bound i h)

-- and so does 2 i
pub twice_fits : (i : ℤ) → IsNear i → FitsSigned w64 (pos 2 *ℤ i)
twice_fits i h = omega (arith, ints)

-- and so does the column's middle, where half a side is at most 2^30 units
pub middle_fits : (i : ℤ) (p : ℕ) → IsNear i → p ≤ 2 ^ 30 → FitsSigned w64 (middle_of i p)
middle_fits i p h low =
    let b = odd_bound i h in
    let u = (pos 2 *ℤ i) +ℤ pos 1 in
    omega (arith, ints, mul-le (up u) p 4000001 (2 ^ 30) b.0 low, mul-le (down u) p 4000001 (2 ^ 30) b.1 low)

-- a factor of at least 512 leaves the other one small
small_factor : (u : ℤ) (p : ℕ) → 512 ≤ p → IsInWorld (u *ℤ pos p) → (negsuc 3999999 ≤ℤ u) × (u ≤ℤ pos 4000000)
small_factor (pos n) p low h = elim (cases_lt n 4000001) [
  | inl small ↦ omega (arith, ints)
  | inr large ↦ (let m = mul-le 4000001 512 n p (omega arith) low in absurd (omega (arith, ints, m)))
]
small_factor (negsuc n) p low h = elim (cases_lt n 4000000) [
  | inl small ↦ omega (arith, ints)
  | inr large ↦ (let m = mul-le 4000001 512 (n + 1) p (omega arith) low in absurd (omega (arith, ints, m)))
]

-- no further column has its middle in the world
pub near_world : (i : ℤ) (p : ℕ) → 512 ≤ p → IsInWorld (middle_of i p) → IsNear i
near_world i p low h = let s = small_factor ((pos 2 *ℤ i) +ℤ pos 1) p low h in omega (arith, ints, s)
