-- One strict inequality u < v * s, by the signs of u and v.
use Rattle.std.proofs.Common.{◌≡◌, ℕ, zero, suc, ◌*◌, ◌↔◌, arith, ℤ, pos, negsuc, ◌*ℤ◌, ◌<ℤ◌, ◌≤ℤ◌, unsigned_abs}
use Rattle.std.proofs.lemmas.Int.{ints}
use Rattle.ml_ratio.specs.Fraction.{Fraction, IsLess, IsScale}
use Rattle.ml_ratio.proofs.lemmas.Fractions.{less_at_most, at_most_less}

-- u < v * s, where r has the value of u/v
pub half_up : (u v : ℤ) (k m : ℕ) (r : Fraction) → k ≡ unsigned_abs u → m ≡ unsigned_abs v → pos 0 ≤ℤ u →
    pos 0 <ℤ v → r.num * m ≡ k * r.den → (s : Fraction) → ((u *ℤ pos s.den) <ℤ (v *ℤ pos s.num)) ↔ IsLess r s
half_up (pos a) (pos zero) k m r e f p q g s = absurd (omega (arith, ints))
half_up (pos a) (pos (suc b)) k m r e f p q g s =
    let t : Fraction = record { num = a; den = suc b; positive = omega arith } in
    let same : r.num * suc b ≡ a * r.den = rw (← f, ← e) g in (
      λ h. let l : IsLess t s = omega (arith, ints) in at_most_less r t s (omega arith) l,
      λ h. let l : IsLess t s = at_most_less t r s (omega arith) h in omega (arith, ints),
    )
half_up (pos a) (negsuc b) k m r e f p q g s = absurd (omega (arith, ints))
half_up (negsuc a) v k m r e f p q g s = absurd (omega (arith, ints))

-- u is at most 0 and v is at least 0, not both 0: all scales
pub half_all : (u v : ℤ) (s : Fraction) → IsScale s → u ≤ℤ pos 0 → pos 0 ≤ℤ v → u <ℤ v → (u *ℤ pos s.den) <ℤ (v *ℤ pos s.num)
half_all (negsuc a) (pos b) s scale p q r = let d = s.positive in omega (arith, ints)
half_all (pos zero) (pos zero) s scale p q r = absurd (omega (arith, ints))
half_all (pos zero) (pos (suc b)) s scale p q r = omega (arith, ints)
half_all (pos (suc a)) v s scale p q r = absurd (omega (arith, ints))
half_all (negsuc a) (negsuc b) s scale p q r = absurd (omega (arith, ints))
half_all (pos zero) (negsuc b) s scale p q r = absurd (omega (arith, ints))

-- u < v * s, where both are below 0 and r has the value of u/v
pub half_down : (u v : ℤ) (k m : ℕ) (r : Fraction) → k ≡ unsigned_abs u → m ≡ unsigned_abs v → u <ℤ pos 0 →
    v <ℤ pos 0 → r.num * m ≡ k * r.den → (s : Fraction) → ((u *ℤ pos s.den) <ℤ (v *ℤ pos s.num)) ↔ IsLess s r
half_down (negsuc a) (negsuc b) k m r e f p q g s =
    let t : Fraction = record { num = suc a; den = suc b; positive = omega arith } in
    let same : r.num * suc b ≡ suc a * r.den = rw (← f, ← e) g in (
      λ h. let l : IsLess s t = omega (arith, ints) in less_at_most s t r l (omega arith),
      λ h. let l : IsLess s t = less_at_most s r t h (omega arith) in omega (arith, ints),
    )
half_down (pos a) v k m r e f p q g s = absurd (omega (arith, ints))
half_down (negsuc a) (pos b) k m r e f p q g s = absurd (omega (arith, ints))
