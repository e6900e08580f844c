-- The order of fractions by value: chains, a fraction between two, the greater and the smaller of two.
use Rattle.std.proofs.Common.{◌≡◌, ℕ, ◌+◌, ◌*◌, ◌<◌, ◌≤◌, ◌↔◌, arith, inl, inr}
use Rattle.std.proofs.Math.Nat.{mul-pos, lt_of_mul-lt-mul_right, le_of_mul-le-mul_right, mul-lt-mul_of_pos_right, mul-le-mul_right}
use Rattle.std.proofs.lemmas.Bool.{cases_lt}
use Rattle.ml_ratio.specs.Fraction.{Fraction, IsLess, IsAtMost, IsSame, IsScale}

-- plain numbers: p/q < r/s < t/u
products : (p q r s t u : ℕ) → p * s < r * q → r * u ≤ t * s → 0 < u → p * u < t * q
products p q r s t u h k pos =
    lt_of_mul-lt-mul_right s (
    let one : p * s * u < r * q * u = mul-lt-mul_of_pos_right h pos in
    let two : r * u * q ≤ t * s * q = mul-le-mul_right q k in
    omega arith)

-- where a < b and b ≤ c, a < c
pub less_at_most : (a b c : Fraction) → IsLess a b → IsAtMost b c → IsLess a c
less_at_most a b c h k = products a.num a.den b.num b.den c.num c.den h k c.positive

products' : (p q r s t u : ℕ) → p * s ≤ r * q → r * u < t * s → 0 < q → p * u < t * q
products' p q r s t u h k pos =
    lt_of_mul-lt-mul_right s (
    let one : p * s * u ≤ r * q * u = mul-le-mul_right u h in
    let two : r * u * q < t * s * q = mul-lt-mul_of_pos_right k pos in
    omega arith)

-- where a ≤ b and b < c, a < c
pub at_most_less : (a b c : Fraction) → IsAtMost a b → IsLess b c → IsLess a c
at_most_less a b c h k = products' a.num a.den b.num b.den c.num c.den h k a.positive

-- where a < b and b < c, a < c
pub less_trans : (a b c : Fraction) → IsLess a b → IsLess b c → IsLess a c
less_trans a b c h k = less_at_most a b c h (omega arith)

products'' : (p q r s t u : ℕ) → p * s ≤ r * q → r * u ≤ t * s → 0 < s → p * u ≤ t * q
products'' p q r s t u h k pos =
    le_of_mul-le-mul_right (
    let one : p * s * u ≤ r * q * u = mul-le-mul_right u h in
    let two : r * u * q ≤ t * s * q = mul-le-mul_right q k in
    let goal : p * u * s ≤ t * q * s = omega arith in
    goal) pos

-- where a ≤ b and b ≤ c, a ≤ c
pub at_most_trans : (a b c : Fraction) → IsAtMost a b → IsAtMost b c → IsAtMost a c
at_most_trans a b c h k = products'' a.num a.den b.num b.den c.num c.den h k b.positive

-- a fraction strictly between two
unfoldable pub middle : Fraction → Fraction → Fraction
middle a b = record { num = a.num + b.num; den = a.den + b.den; positive = let p : 0 < a.den = a.positive in omega arith }

-- the fraction between two is above the smaller one
pub middle_above : (a b : Fraction) → IsLess a b → IsLess a (middle a b)
unfolding middle
middle_above a b h = omega arith

-- the fraction between two is below the greater one
pub middle_below : (a b : Fraction) → IsLess a b → IsLess (middle a b) b
unfolding middle
middle_below a b h = omega arith

-- a fraction that is less than another is at most that one
pub less_is_at_most : (a b : Fraction) → IsLess a b → IsAtMost a b
less_is_at_most a b h = omega arith

-- a fraction of the same value as another is at most that one
pub same_at_most : (a b : Fraction) → IsSame b a → IsAtMost a b
same_at_most a b e = omega arith

pub ruleset order = (less_at_most, at_most_less, less_trans, at_most_trans)

-- above both, where the one is at most the other
pub above_both : (a b : Fraction) → IsAtMost a b → (s : Fraction) → IsLess b s ↔ (IsLess a s × IsLess b s)
above_both a b h s = (λ k. (at_most_less a b s h k, k), λ k. k.1)

-- where b ≤ a, a fraction is above both a and b just if it is above a
pub above_both_turned : (a b : Fraction) → IsAtMost b a → (s : Fraction) → IsLess a s ↔ (IsLess a s × IsLess b s)
above_both_turned a b h s = (λ k. (k, at_most_less b a s h k), λ k. k.0)

-- where a ≤ b, a fraction is at least both a and b just if it is at least b
pub from_both : (a b : Fraction) → IsAtMost a b → (s : Fraction) → IsAtMost b s ↔ (IsAtMost a s × IsAtMost b s)
from_both a b h s = (λ k. (at_most_trans a b s h k, k), λ k. k.1)

-- where b ≤ a, a fraction is at least both a and b just if it is at least a
pub from_both_turned : (a b : Fraction) → IsAtMost b a → (s : Fraction) → IsAtMost a s ↔ (IsAtMost a s × IsAtMost b s)
from_both_turned a b h s = (λ k. (k, at_most_trans b a s h k), λ k. k.0)

-- below both
pub below_both : (a b : Fraction) → IsAtMost a b → (s : Fraction) → IsLess s a ↔ (IsLess s a × IsLess s b)
below_both a b h s = (λ k. (k, less_at_most s a b k h), λ k. k.0)

-- where b ≤ a, a fraction is below both a and b just if it is below b
pub below_both_turned : (a b : Fraction) → IsAtMost b a → (s : Fraction) → IsLess s b ↔ (IsLess s a × IsLess s b)
below_both_turned a b h s = (λ k. (less_at_most s b a k h, k), λ k. k.1)

-- zero is below each scale
pub zero_below : (r s : Fraction) → r.num * 1 ≡ 0 * r.den → IsScale s → IsLess r s
zero_below r s e scale =
    let z : r.num ≡ 0 = omega arith in
    let p : 0 < s.num * r.den = mul-pos scale r.positive in
    rw z (omega arith)

-- what lies above a fraction is a scale
pub scale_above : (a s : Fraction) → IsLess a s → IsScale s
scale_above a s h =
    elim (cases_lt 0 s.num) [
      | inl lt ↦ lt
      | inr ge ↦ let e : s.num ≡ 0 = omega arith in absurd (let k : a.num * s.den < 0 * a.den = rw e at h in omega arith)
    ]

-- the greater of two
pub greater_of : (a b : Fraction) → (m : Fraction) × IsAtMost a m × IsAtMost b m
    × ((x : Fraction) → IsAtMost a x → IsAtMost b x → IsAtMost m x) × ((x : Fraction) → IsLess a x → IsLess b x → IsLess m x)
greater_of a b =
    elim (cases_lt (a.num * b.den) (b.num * a.den)) [
      | inl h ↦ (b, omega arith, omega arith, λ x p q. q, λ x p q. q)
      | inr h ↦ (a, omega arith, omega arith, λ x p q. p, λ x p q. p)
    ]

-- the same value as a third
pub same_trans : (a b c : Fraction) → IsSame a b → IsSame b c → IsSame a c
same_trans a b c p q =
    let up : IsAtMost a c = at_most_trans a b c (omega arith) (omega arith) in
    let down : IsAtMost c a = at_most_trans c b a (omega arith) (omega arith) in
    omega arith
