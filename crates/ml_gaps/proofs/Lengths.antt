-- How long ranges are.
use Rattle.std.proofs.Common.{◌≡◌, ℕ, ◌+◌, ◌-◌, ◌*◌, ◌<◌, ◌≤◌, arith, ap}
use Rattle.std.proofs.Math.Nat.{mul-le-mul_right}
use Rattle.ml_ratio.specs.Fraction.{Fraction, IsLess, IsAtMost}
use Rattle.ml_ratio.proofs.lemmas.Fractions.{at_most_trans}
use Rattle.ml_gaps.specs.Gap.{length_of}

-- a range that is empty has no length
pub empty_length : (f u : Fraction) → IsAtMost u f → (length_of f u).num ≡ 0
unfolding length_of
empty_length f u h = omega arith

-- a range that ends above where it begins has a length above 0
pub some_length : (f u : Fraction) → IsLess f u → 0 < (length_of f u).num
unfolding length_of
some_length f u h = omega arith

-- plain numbers: u/v - f/g ≤ p/q - r/t, where a and b are the numerators of the differences
within : (a b u v f g p q r t : ℕ) → a + f * v ≡ u * g → b + r * q ≡ p * t → u * q ≤ p * v → r * g ≤ f * t → a * (q * t) ≤ b * (v * g)
within a b u v f g p q r t ea eb up down =
    let one : (a + f * v) * (q * t) ≡ u * g * (q * t) = ap (λ (n : ℕ). n * (q * t)) ea in
    let two : (b + r * q) * (v * g) ≡ p * t * (v * g) = ap (λ (n : ℕ). n * (v * g)) eb in
    let three : u * q * (g * t) ≤ p * v * (g * t) = mul-le-mul_right (g * t) up in
    let four : r * g * (q * v) ≤ f * t * (q * v) = mul-le-mul_right (q * v) down in
    omega arith

-- a range within another is no longer
pub length_within : (f u r p : Fraction) → IsAtMost r f → IsAtMost f u → IsAtMost u p → IsAtMost (length_of f u) (length_of r p)
unfolding length_of
length_within f u r p low order high =
    let outer : IsAtMost r p = at_most_trans r f p low (at_most_trans f u p order high) in
    within (u.num * f.den - f.num * u.den) (p.num * r.den - r.num * p.den) u.num u.den f.num f.den p.num p.den r.num r.den (omega arith) (omega arith) high low

-- nothing is less than nothing
pub none_shorter : (a b : Fraction) → b.num ≡ 0 → IsLess a b → ⊥
none_shorter a b e h = let k : a.num * b.den < b.num * a.den = h in let l = rw e at k in omega arith
