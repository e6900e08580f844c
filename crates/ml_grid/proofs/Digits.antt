-- Numbers stand to one another as their digits do.
use Rattle.std.proofs.Common.{◌≡◌, ℕ, ◌+◌, ◌*◌, ◌/◌, ◌%◌, ◌<◌, ◌≤◌, arith, sym, ap, ◌∙◌, inl, inr, pos, ◌-ℤ◌}
use Rattle.std.proofs.Math.Nat.{mul-le-mul_right}
use Rattle.std.proofs.lemmas.Bool.{cases_order}
use Rattle.std.proofs.lemmas.Bool.Decides.{nat_tests}
use Rattle.std.proofs.lemmas.Int.{ints}
use Rattle.std.specs.Ordering.{nat_cmp, int_cmp, ordering_then}
use Rattle.std.specs.declared.cmp.Ordering.{Ordering}
use Rattle.std.specs.declared.cmp.Ordering.TheVariants.{Less, Equal, Greater}

lesser : (p q : ℕ) → p < q → nat_cmp p q ≡ Less
lesser p q h = grind (arith, nat_tests)

alike : (p q : ℕ) → p ≡ q → nat_cmp p q ≡ Equal
alike p q h = grind (arith, nat_tests)

greater : (p q : ℕ) → q < p → nat_cmp p q ≡ Greater
greater p q h = grind (arith, nat_tests)

-- numbers that tie are the same
pub same_numbers : (p q : ℕ) → nat_cmp p q ≡ Equal → p ≡ q
same_numbers p q h = grind (arith, nat_tests)

below : (w p q u v : ℕ) → p < q → u < w → p * w + u < q * w + v
below w p q u v h k = let s : p + 1 ≤ q = omega arith in let m : (p + 1) * w ≤ q * w = mul-le-mul_right w s in omega arith

last_digits : (w p q u v : ℕ) → p ≡ q → nat_cmp (p * w + u) (q * w + v) ≡ nat_cmp u v
last_digits w p q u v e =
    let m : p * w ≡ q * w = ap (λ (n : ℕ). n * w) e in
    elim (cases_order u v) [
      | inl same ↦ alike (p * w + u) (q * w + v) (omega arith) ∙ sym (alike u v same)
      | inr (inl less) ↦ lesser (p * w + u) (q * w + v) (omega arith) ∙ sym (lesser u v less)
      | inr (inr more) ↦ greater (p * w + u) (q * w + v) (omega arith) ∙ sym (greater u v more)
    ]

-- numbers of two digits stand as the first digits, or else as the last ones
two_digits : (w p q u v : ℕ) → u < w → v < w → nat_cmp (p * w + u) (q * w + v) ≡ ordering_then (nat_cmp p q) (nat_cmp u v)
two_digits w p q u v h k =
    let after : Ordering → Ordering = λ (o : Ordering). ordering_then o (nat_cmp u v) in
    elim (cases_order p q) [
      | inl same ↦ last_digits w p q u v same ∙ sym (ap after (alike p q same))
      | inr (inl less) ↦ lesser (p * w + u) (q * w + v) (below w p q u v less h) ∙ sym (ap after (lesser p q less))
      | inr (inr more) ↦ greater (p * w + u) (q * w + v) (below w q p v u more k) ∙ sym (ap after (greater p q more))
    ]

-- the same of all numbers, by their quotients and remainders
pub by_digits : (w m n : ℕ) → 0 < w → nat_cmp m n ≡ ordering_then (nat_cmp (m / w) (n / w)) (nat_cmp (m % w) (n % w))
by_digits w m n h =
    let one : m ≡ m / w * w + m % w = omega arith in
    let other : n ≡ n / w * w + n % w = omega arith in
    let low : m % w < w = omega arith in
    let lower : n % w < w = omega arith in
    ap (λ (k : ℕ). nat_cmp k n) one ∙ ap (λ (k : ℕ). nat_cmp (m / w * w + m % w) k) other ∙ two_digits w (m / w) (n / w) (m % w) (n % w) low lower

-- and when both are lowered by the same
pub lowered : (m n : ℕ) → nat_cmp m n ≡ int_cmp (pos m -ℤ pos 2097152) (pos n -ℤ pos 2097152)
lowered m n = grind (arith, ints, nat_tests)
