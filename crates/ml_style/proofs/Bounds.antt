-- A fraction and the one in lowest terms have the same bounds.
use Rattle.std.proofs.Common.{◌≡◌, ℕ, ◌*◌, ◌<◌, ◌≤◌, true, false, nat_le, nat_lt, ◌&&◌, Option, Some, None, MatchOption, option_and_then, cond, arith, refl, le-leb, Bool, ap, inl, inr}
use Rattle.std.proofs.Math.Nat.{le_of_mul-le-mul_right, mul-le-mul_right, mul-lt-mul_of_pos_right, lt_of_mul-lt-mul_right, mul-pos}
use Rattle.std.proofs.lemmas.Bool.{cases_lt}
use Rattle.std.proofs.lemmas.Bool.Decides.{nat_tests}
use Rattle.ml_ratio.specs.declared.ratio.Ratio.{Ratio}
use Rattle.ml_ratio.specs.Ratio.{IsRatioOf}
use Rattle.ml_style.specs.ClassTable.{is_bound, AreSame}

-- the bound, where the parts of a fraction are one
abbrev pub judged : Option (ℕ × ℕ) → Option (ℕ × ℕ)
judged o = option_and_then (λ p. cond (is_bound p) (Some p) None) o

both4 : (a b c d : Bool) → a ≡ true → b ≡ true → c ≡ true → d ≡ true → (a && (b && (c && d))) ≡ true
both4 a b c d p q r s = rw (p, q, r, s) refl

last_false : (a b c d : Bool) → d ≡ false → (a && (b && (c && d))) ≡ false
last_false false b c d e = refl
last_false true false c d e = refl
last_false true true false d e = refl
last_false true true true d e = e

below : (n d num den : ℕ) → num * d ≡ n * den → 0 < den → num ≤ 268435456 * den → n ≤ 268435456 * d
below n d num den e pos h =
    let one : num * d ≤ 268435456 * den * d = mul-le-mul_right d h in
    let two : n * den ≤ 268435456 * d * den = omega arith in
    le_of_mul-le-mul_right two pos

above : (n d num den : ℕ) → num * d ≡ n * den → 0 < d → 268435456 * den < num → 268435456 * d < n
above n d num den e pos h =
    lt_of_mul-lt-mul_right den (
    let one : 268435456 * den * d < num * d = mul-lt-mul_of_pos_right h pos in
    omega arith)

-- what is read and low enough is the bound
pub low : (o : Option (ℕ × ℕ)) (r : Ratio) → MatchOption o (Some r ≡ None) (λ p. IsRatioOf p.0 p.1 (Some r)) → r.num ≤ 268435456 * r.den → AreSame (judged o) (Some r)
low None r h l = absurd cc
low (Some p) r h l =
    let within = h.0 in
    let small : p.0 ≤ 268435456 * p.1 = below p.0 p.1 r.num r.den h.1 r.positive l in
    let t : is_bound p ≡ true = both4 (nat_lt 0 p.1) (nat_le p.1 65536) (nat_le p.0 4294967296) (nat_le p.0 (268435456 * p.1))
    (le-leb 1 p.1 within.positive) (le-leb p.1 65536 within.low_den) (le-leb p.0 4294967296 within.low_num) (le-leb p.0 (268435456 * p.1) small) in
    rw t (within.positive, h.1)

-- what is read and too great is none
pub high : (o : Option (ℕ × ℕ)) (r : Ratio) → MatchOption o (Some r ≡ None) (λ p. IsRatioOf p.0 p.1 (Some r)) → 268435456 * r.den < r.num → AreSame (judged o) None
high None r h l = tt
high (Some p) r h l =
    let within = h.0 in
    let great : 268435456 * p.1 < p.0 = above p.0 p.1 r.num r.den h.1 within.positive l in
    let t : nat_le p.0 (268435456 * p.1) ≡ false = grind (arith, nat_tests) in
    let f : is_bound p ≡ false = last_false (nat_lt 0 p.1) (nat_le p.1 65536) (nat_le p.0 4294967296) (nat_le p.0 (268435456 * p.1)) t in
    rw f tt

crossed_most : (n d m e a b c g : ℕ) → a * d ≡ n * b → c * e ≡ m * g → m * d * (g * b) ≤ n * e * (g * b) → c * b * (e * d) ≤ a * g * (e * d)
crossed_most n d m e a b c g p q h =
    let p' : a * d * (e * g) ≡ n * b * (e * g) = ap (λ (x : ℕ). x * (e * g)) p in
    let q' : c * e * (d * b) ≡ m * g * (d * b) = ap (λ (x : ℕ). x * (d * b)) q in
    omega arith

crossed_less : (n d m e a b c g : ℕ) → a * d ≡ n * b → c * e ≡ m * g → n * e * (g * b) < m * d * (g * b) → a * g * (e * d) < c * b * (e * d)
crossed_less n d m e a b c g p q h =
    let p' : a * d * (e * g) ≡ n * b * (e * g) = ap (λ (x : ℕ). x * (e * g)) p in
    let q' : c * e * (d * b) ≡ m * g * (d * b) = ap (λ (x : ℕ). x * (d * b)) q in
    omega arith

-- the parts of two fractions are in the order of their values
pub same_order : (p q : ℕ × ℕ) (min max : Ratio) → AreSame (Some p) (Some min) → AreSame (Some q) (Some max) → nat_le (q.0 * p.1) (p.0 * q.1) ≡ nat_le (max.num * min.den) (min.num * max.den)
same_order p q min max e f =
    elim (cases_lt (p.0 * q.1) (q.0 * p.1)) [
      | inl less ↦ (
          let one : p.0 * q.1 * (max.den * min.den) < q.0 * p.1 * (max.den * min.den) = mul-lt-mul_of_pos_right less (mul-pos max.positive min.positive) in
          let two : min.num * max.den * (q.1 * p.1) < max.num * min.den * (q.1 * p.1) = crossed_less p.0 p.1 q.0 q.1 min.num min.den max.num max.den e.1 f.1 one in
          let three : min.num * max.den < max.num * min.den = lt_of_mul-lt-mul_right (q.1 * p.1) two in
          grind (arith, nat_tests))
      | inr most ↦ (
          let one : q.0 * p.1 * (max.den * min.den) ≤ p.0 * q.1 * (max.den * min.den) = mul-le-mul_right (max.den * min.den) most in
          let two : max.num * min.den * (q.1 * p.1) ≤ min.num * max.den * (q.1 * p.1) = crossed_most p.0 p.1 q.0 q.1 min.num min.den max.num max.den e.1 f.1 one in
          let three : max.num * min.den ≤ min.num * max.den = le_of_mul-le-mul_right two (mul-pos f.0 e.0) in
          grind (arith, nat_tests))
    ]
