-- Numbers of a chain: what the code computes in wide integers is what the definitions say.
use Rattle.std.proofs.Common.{◌≡◌, ℕ, ◌*◌, ◌/◌, ◌^◌, ◌<◌, ◌≤◌, List, length, take, sum, Bool, cond, ℤ, pos, negsuc, neg_ℤ, nat_abs, ◌+ℤ◌, ◌*ℤ◌, ◌<ℤ◌, ◌≤ℤ◌, FitsSigned, w64, lit<, sym, ap, ◌∙◌, arith}
use Rattle.std.proofs.lemmas.Bool.{lt-ltb, le-ltb}
use Rattle.std.proofs.lemmas.Int.{ints, fits_signed_mul, unsigned_abs-mul}
use Rattle.std.proofs.lemmas.List.{take_all}
use Rattle.std.proofs.lemmas.Nat.{mul-le}
use mir.Syntax.{w128}
use Rattle.ml_ratio.specs.World.{IsInWorld}
use Rattle.ml_ratio.proofs.lemmas.Rounding.{size_le}
use Rattle.ml_river.specs.declared.class.RiverClass.{RiverClass}
use Rattle.ml_river.specs.Chain.{width, edge}

-- before the last cluster
pub edge_inside : (c : RiverClass) (advances : List ℕ) (k before s u : ℕ) → k < length advances → before ≡ sum (take k advances) → s ≡ c.size → u ≡ c.units → before * s / u ≡ edge c advances k
unfolding edge
edge_inside c advances k before s u h e es eu =
    ap (λ (n : ℕ). n * s / u) e
    ∙ (ap (λ (n : ℕ). sum (take k advances) * n / u) es
    ∙ (ap (λ (n : ℕ). sum (take k advances) * c.size / n) eu
    ∙ ap (λ (b : Bool). cond b (sum (take k advances) * c.size / c.units) (width c (sum advances))) (sym (lt-ltb k (length advances) h))))

-- after the last cluster
pub edge_end : (c : RiverClass) (advances : List ℕ) (k before w : ℕ) → length advances ≤ k → before ≡ sum (take k advances) → w ≡ width c before → w ≡ edge c advances k
unfolding edge
edge_end c advances k before w h e ew =
    ew
    ∙ (ap (λ (n : ℕ). width c n) (e ∙ ap (λ (l : List ℕ). sum l) (take_all k advances h))
    ∙ ap (λ (b : Bool). cond b (sum (take k advances) * c.size / c.units) (width c (sum advances))) (sym (le-ltb k (length advances) h)))

-- the doubled middle fits 128 bits
pub doubled_fits : (l r : ℤ) (n : ℕ) → FitsSigned w64 l → FitsSigned w64 r → n < 2 ^ 32 → FitsSigned w128 ((l +ℤ r) *ℤ pos n)
doubled_fits l r n lf rf h =
    fits_signed_mul w128 (l +ℤ r) (pos n) (2 ^ 64) (2 ^ 32) (size_le (l +ℤ r) (2 ^ 64) (omega (arith, ints)) (omega (arith, ints))) (omega arith) (lit< tt)

size_back : (z : ℤ) (m : ℕ) → nat_abs z ≤ m → (neg_ℤ (pos m) ≤ℤ z) × (z ≤ℤ pos m)
size_back (pos n) m h = (omega (arith, ints), omega (arith, ints))
size_back (negsuc n) m h = (omega (arith, ints), omega (arith, ints))

doubled_bound : (l r : ℤ) (n : ℕ) → FitsSigned w64 l → FitsSigned w64 r → n < 2 ^ 32 → nat_abs ((l +ℤ r) *ℤ pos n) ≤ 2 ^ 64 * 2 ^ 32
doubled_bound l r n lf rf h =
    rw (unsigned_abs-mul (l +ℤ r) (pos n)) (mul-le (nat_abs (l +ℤ r)) n (2 ^ 64) (2 ^ 32) (size_le (l +ℤ r) (2 ^ 64) (omega (arith, ints)) (omega (arith, ints))) (omega arith))

-- half of it, rounded down, and the middle do too
pub record HalfFits (x f : ℤ) : Type 0 where
  pub half : FitsSigned w128 f
  pub middle : FitsSigned w128 (x +ℤ f)

fits_from : (x p f : ℤ) → IsInWorld x → (neg_ℤ (pos (2 ^ 64 * 2 ^ 32)) ≤ℤ p) × (p ≤ℤ pos (2 ^ 64 * 2 ^ 32)) → (f *ℤ pos 2) ≤ℤ p → p <ℤ ((f +ℤ pos 1) *ℤ pos 2) → HalfFits x f
fits_from x p f w b h k = record { half = omega (arith, ints, b.0, b.1); middle = omega (arith, ints, b.0, b.1, w.0, w.1) }

-- half of the doubled middle, rounded down, fits 128 bits, and so does the middle that it leads to
pub half_fits : (x l r f : ℤ) (n : ℕ) → IsInWorld x → FitsSigned w64 l → FitsSigned w64 r → n < 2 ^ 32 →
    (f *ℤ pos 2) ≤ℤ ((l +ℤ r) *ℤ pos n) → ((l +ℤ r) *ℤ pos n) <ℤ ((f +ℤ pos 1) *ℤ pos 2) → HalfFits x f
half_fits x l r f n w lf rf h low high = fits_from x ((l +ℤ r) *ℤ pos n) f w (size_back ((l +ℤ r) *ℤ pos n) (2 ^ 64 * 2 ^ 32) (doubled_bound l r n lf rf h)) low high
