-- One strict inequality u < v * s, by the signs of u and v.
use Rattle.std.proofs.Common.{◌≡◌, ℕ, suc, ◌+◌, ◌*◌, ◌↔◌, ap, arith, ℤ, pos, negsuc, ◌-ℤ◌, ◌+ℤ◌, ◌*ℤ◌, ◌<ℤ◌, ◌≤ℤ◌, unsigned_abs}
use Rattle.std.proofs.lemmas.Int.{ints}
use borrow.Author.Differences.{up, down}
use Rattle.ml_ratio.specs.Fraction.{Fraction, IsLess}
use Rattle.ml_ratio.proofs.lemmas.Fractions.{less_at_most, at_most_less}
use Rattle.ml_cone.specs.Plane.{SideInWindow}

-- u < v * s
abbrev pub IsBeyond : ℤ → ℤ → Fraction → Type 0
IsBeyond u v s = (u *ℤ pos s.den) <ℤ (v *ℤ pos s.num)

-- where r has the value of u/v, both at least 0
pub half_up : (u v : ℤ) (k m : ℕ) (r : Fraction) → k ≡ unsigned_abs u → m ≡ unsigned_abs v → pos 0 ≤ℤ u → pos 0 <ℤ v → r.num * m ≡ k * r.den → (s : Fraction) → IsBeyond u v s ↔ IsLess r s
half_up (pos a) (pos (suc b)) k m r e f p q g s =
    let t : Fraction = record { num = a; den = suc b; positive = omega arith } in
    let same : r.num * suc b ≡ a * r.den = rw (← f, ← e) g in (
      λ h. let l : IsLess t s = omega (arith, ints) in at_most_less r t s (omega arith) l,
      λ h. let l : IsLess t s = at_most_less t r s (omega arith) h in omega (arith, ints),
    )
half_up u v k m r e f p q g s = absurd (omega (arith, ints))

-- where r has the value of u/v, both below 0
pub half_down : (u v : ℤ) (k m : ℕ) (r : Fraction) → k ≡ unsigned_abs u → m ≡ unsigned_abs v → u <ℤ pos 0 → v <ℤ pos 0 → r.num * m ≡ k * r.den → (s : Fraction) → IsBeyond u v s ↔ IsLess s r
half_down (negsuc a) (negsuc b) k m r e f p q g s =
    let t : Fraction = record { num = suc a; den = suc b; positive = omega arith } in
    let same : r.num * suc b ≡ suc a * r.den = rw (← f, ← e) g in (
      λ h. let l : IsLess s t = omega (arith, ints) in less_at_most s t r l (omega arith),
      λ h. let l : IsLess s t = less_at_most s r t h (omega arith) in omega (arith, ints),
    )
half_down u v k m r e f p q g s = absurd (omega (arith, ints))

-- a difference times a natural number, for `omega`
pub difference_scaled : (x y : ℤ) (n : ℕ) → up ((x -ℤ y) *ℤ pos n) + down x * n + up y * n ≡ down ((x -ℤ y) *ℤ pos n) + up x * n + down y * n
difference_scaled x y n =
    let e : up (x -ℤ y) + down x + up y ≡ down (x -ℤ y) + up x + down y = omega (arith, ints) in
    omega (arith, ints, ap (λ (t : ℕ). t * n) e)

-- a sum times a natural number, for `omega`
pub sum_scaled : (x y : ℤ) (n : ℕ) → up ((x +ℤ y) *ℤ pos n) + down x * n + down y * n ≡ down ((x +ℤ y) *ℤ pos n) + up x * n + up y * n
sum_scaled x y n =
    let e : up (x +ℤ y) + down x + down y ≡ down (x +ℤ y) + up x + up y = omega (arith, ints) in
    omega (arith, ints, ap (λ (t : ℕ). t * n) e)

-- a side meets a window of 2h pixels where two such inequalities hold
pub side_by_halves : (x l r c : ℤ) (w h : ℕ) (s : Fraction) → w ≡ 2 * h → SideInWindow x l r c w s ↔ (IsBeyond (x -ℤ c) (pos h -ℤ l) s × IsBeyond (c -ℤ x) (pos h +ℤ r) s)
side_by_halves x l r c w h s e =
    let k : w * s.num ≡ 2 * (h * s.num) = rw e (omega arith) in
    let d1 = difference_scaled x c s.den in
    let d2 = difference_scaled c x s.den in
    let d3 = difference_scaled (pos h) l s.num in
    let d4 = sum_scaled (pos h) r s.num in
    (λ p. (omega (arith, ints, p.0, d1, d3), omega (arith, ints, p.1, d2, d4)), λ p. (omega (arith, ints, p.0, d1, d3), omega (arith, ints, p.1, d2, d4)))
