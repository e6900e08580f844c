-- What a label covers lies within its extent, and extents that overlap at a scale overlap at each greater one.
use Rattle.std.proofs.Common.{◌+◌, ◌⊎◌, inl, inr, ◌≡◌, ℕ, zero, suc, ◌*◌, ◌<◌, ◌≤◌, ◌↔◌, arith, ap, subst, sym, ℤ, pos, ◌+ℤ◌, ◌-ℤ◌, ◌*ℤ◌, ◌<ℤ◌, ◌≤ℤ◌, unsigned_abs, Bool, true, false, refl}
use Rattle.std.specs.Prelude.{MatchBool}
use Rattle.std.specs.Int.{int_min}
use Rattle.std.proofs.lemmas.Int.{ints, clamps, by_lt_z}
use Rattle.std.proofs.lemmas.Nat.{mul-le, mul-lt}
use Rattle.ml_ratio.specs.Fraction.{Fraction, IsLess, IsAtMost}
use Rattle.ml_ratio.proofs.lemmas.Fractions.{less_at_most, at_most_less, at_most_trans}
use Rattle.ml_cone.specs.Plane.{IsBelow, SidesMeet}
use Rattle.ml_cone.specs.Hull.{Holds, IsStretch, reach_of}
use Rattle.ml_cone.specs.Overlap.{widened, BoxesOverlap, Overlap}
use Rattle.ml_cone.specs.Near.{IsUpTo, IsFrom, IsAbove, ExtentsOverlap, SidesAreNear, SidesAreApart, SidesAreClear, SidesAreNearAbove}
use Rattle.ml_cone.specs.declared.label.Label.{Label}
use Rattle.ml_ratio.proofs.lemmas.Rounding.{scaled_le, sum_scaled}
use Rattle.ml_cone.proofs.Hulls.{reach_extent, reach_holds}
use Rattle.ml_cone.proofs.Meetings.{at_place}
use Rattle.ml_cone.proofs.Outlines.{difference_times}

-- ---- sides by their distance

-- the way from one anchor to another further on, and the pixels that reach toward each other on it
sides_ahead : (x l r y k t : ℤ) (g w : ℕ) (s : Fraction) → l ≤ℤ pos 0 → pos 0 ≤ℤ t → 0 < g → y ≡ (x +ℤ pos g) → pos w ≡ (r -ℤ k) → SidesMeet x l r y k t s ↔ (g * s.den < w * s.num)
unfolding IsBelow
sides_ahead x l r y k t g w s left right some far wide =
    let d = sum_scaled x (pos g) s.den in
    let e : (y *ℤ pos s.den) ≡ ((x +ℤ pos g) *ℤ pos s.den) = ap (λ (z : ℤ). z *ℤ pos s.den) far in
    let f = difference_times r k s.num in
    let h : (pos w *ℤ pos s.num) ≡ ((r -ℤ k) *ℤ pos s.num) = ap (λ (z : ℤ). z *ℤ pos s.num) wide in
    let m = scaled_le l (pos 0) s.num left in
    let n = scaled_le (pos 0) t s.num right in
    let p : 0 < g * s.den = (let q = mul-le 1 s.den g s.den some (omega arith) in let u = s.positive in omega arith) in
    (λ meet. (let b = meet.1 in omega (arith, ints)), λ less. (omega (arith, ints), omega (arith, ints)))

-- the way back
sides_behind : (x l r y k t : ℤ) (g w : ℕ) (s : Fraction) → k ≤ℤ pos 0 → pos 0 ≤ℤ r → 0 < g → x ≡ (y +ℤ pos g) → pos w ≡ (t -ℤ l) → SidesMeet x l r y k t s ↔ (g * s.den < w * s.num)
sides_behind x l r y k t g w s left right some far wide =
    let e = sides_ahead y k t x l r g w s left right some far wide in
    (λ meet. e.0 (meet.1, meet.0), λ less. (let m = e.1 less in (m.1, m.0)))

-- anchors at one place
sides_here : (x l r k t : ℤ) (w : ℕ) (s : Fraction) → pos w ≡ int_min (r -ℤ k) (t -ℤ l) → SidesMeet x l r x k t s ↔ (0 * s.den < w * s.num)
unfolding IsBelow
sides_here x l r k t w s wide =
    let f = difference_times r k s.num in
    let g = difference_times t l s.num in
    let low : pos w ≤ℤ (r -ℤ k) = omega (arith, ints, clamps) in
    let last : pos w ≤ℤ (t -ℤ l) = omega (arith, ints, clamps) in
    let m = scaled_le (pos w) (r -ℤ k) s.num low in
    let n = scaled_le (pos w) (t -ℤ l) s.num last in (
      λ meet. by_lt_z (t -ℤ l) (r -ℤ k)
          (λ less.
          let e : pos w ≡ (t -ℤ l) = omega (arith, ints, clamps) in
          let h : (pos w *ℤ pos s.num) ≡ ((t -ℤ l) *ℤ pos s.num) = ap (λ (z : ℤ). z *ℤ pos s.num) e in
          let b = meet.0 in omega (arith, ints))
          (λ most.
          let e : pos w ≡ (r -ℤ k) = omega (arith, ints, clamps) in
          let h : (pos w *ℤ pos s.num) ≡ ((r -ℤ k) *ℤ pos s.num) = ap (λ (z : ℤ). z *ℤ pos s.num) e in
          let b = meet.1 in omega (arith, ints)),
      λ less. (omega (arith, ints), omega (arith, ints)),
    )

-- sides meet where the way between the anchors is less than what the sides reach toward each other
pub sides_by_distance : (x l r y k t : ℤ) (g w : ℕ) (s : Fraction) → IsStretch l r → IsStretch k t → g ≡ unsigned_abs (x -ℤ y) →
    (x <ℤ y → pos w ≡ (r -ℤ k)) → (y <ℤ x → pos w ≡ (t -ℤ l)) → (x ≡ y → pos w ≡ int_min (r -ℤ k) (t -ℤ l)) → SidesMeet x l r y k t s ↔ (g * s.den < w * s.num)
sides_by_distance x l r y k t g w s one other far ahead behind here =
    let o1 = one.left in let o2 = one.right in let q1 = other.left in let q2 = other.right in
    by_lt_z x y
    (λ less. sides_ahead x l r y k t g w s o1 q2 (omega (arith, ints)) (omega (arith, ints)) (ahead less))
    (λ most. by_lt_z y x
    (λ less. sides_behind x l r y k t g w s q1 o2 (omega (arith, ints)) (omega (arith, ints)) (behind less))
    (λ also.
    let same : x ≡ y = omega (arith, ints) in
    let none : g ≡ 0 = omega (arith, ints) in
    let e = sides_here x l r k t w s (here same) in
    subst (λ (z : ℤ). SidesMeet x l r z k t s ↔ (g * s.den < w * s.num)) same (subst (λ (h : ℕ). SidesMeet x l r x k t s ↔ (h * s.den < w * s.num)) (sym none) e)))

-- ---- one scale stands for all to one hand

-- what is less at a scale is less at each greater one
pub less_on : (g w num den : ℕ) (s : Fraction) → 0 < den → g * den < w * num → IsFrom num den s → g * s.den < w * s.num
less_on g zero num den s positive less from = absurd (omega arith)
less_on g (suc w) num den s positive less from =
    let a : Fraction = record { num = g; den = suc w; positive = omega arith } in
    let b : Fraction = record { num = num; den = den; positive = positive } in
    let h : IsLess a b = omega arith in
    let k : IsAtMost b s = from in
    let m : IsLess a s = less_at_most a b s h k in
    omega arith

-- what is not less at a scale is not less at any smaller one
pub most_back : (g w num den : ℕ) (s : Fraction) → 0 < den → w * num ≤ g * den → IsUpTo num den s → w * s.num ≤ g * s.den
most_back g zero num den s positive most upto = omega arith
most_back g (suc w) num den s positive most upto =
    let a : Fraction = record { num = g; den = suc w; positive = omega arith } in
    let b : Fraction = record { num = num; den = den; positive = positive } in
    let h : IsAtMost b a = omega arith in
    let k : IsAtMost s b = upto in
    let m : IsAtMost s a = at_most_trans s b a k h in
    omega arith

-- sides are apart at a scale and at each smaller one, or near at it and at each greater one
pub apart_or_near : (x l r y k t : ℤ) (g w num den : ℕ) (b : Bool) → IsStretch l r → IsStretch k t → 0 < den → g ≡ unsigned_abs (x -ℤ y) →
    (x <ℤ y → pos w ≡ (r -ℤ k)) → (y <ℤ x → pos w ≡ (t -ℤ l)) → (x ≡ y → pos w ≡ int_min (r -ℤ k) (t -ℤ l)) →
    (b ≡ true → w * num ≤ g * den) → (b ≡ false → g * den < w * num) →
    MatchBool b (SidesAreApart x l r y k t num den) (SidesAreNear x l r y k t num den)
apart_or_near x l r y k t g w num den true one other positive far ahead behind here most less = λ s upto meet.
    let m = (sides_by_distance x l r y k t g w s one other far ahead behind here).0 meet in
    let n = most_back g w num den s positive (most refl) upto in
    absurd (omega arith)
apart_or_near x l r y k t g w num den false one other positive far ahead behind here most less = λ s from.
    (sides_by_distance x l r y k t g w s one other far ahead behind here).1 (less_on g w num den s positive (less refl) from)

-- the pixels that two sides reach toward each other
toward : (x l r y k t : ℤ) → IsStretch l r → IsStretch k t → (w : ℕ) × (w ≤ 1152) × (x <ℤ y → pos w ≡ (r -ℤ k)) × (y <ℤ x → pos w ≡ (t -ℤ l)) × (x ≡ y → pos w ≡ int_min (r -ℤ k) (t -ℤ l))
toward x l r y k t one other =
    let o0 = one.from in let o1 = one.left in let o2 = one.right in let o3 = one.until in
    let q0 = other.from in let q1 = other.left in let q2 = other.right in let q3 = other.until in
    by_lt_z x y
    (λ less. (unsigned_abs (r -ℤ k), omega (arith, ints), λ _. omega (arith, ints), λ h. absurd (omega (arith, ints)), λ h. absurd (omega (arith, ints))))
    (λ most. by_lt_z y x
    (λ less. (unsigned_abs (t -ℤ l), omega (arith, ints), λ h. absurd (omega (arith, ints)), λ _. omega (arith, ints), λ h. absurd (omega (arith, ints))))
    (λ also. (unsigned_abs (int_min (r -ℤ k) (t -ℤ l)), omega (arith, ints, clamps), λ h. absurd (omega (arith, ints)), λ h. absurd (omega (arith, ints)), λ _. omega (arith, ints, clamps))))

-- sides that meet at a scale meet at each greater one
pub sides_grow : (x l r y k t : ℤ) (s u : Fraction) → IsStretch l r → IsStretch k t → IsAtMost s u → SidesMeet x l r y k t s → SidesMeet x l r y k t u
sides_grow x l r y k t s u one other upto meet =
    let w = toward x l r y k t one other in
    let g : ℕ = unsigned_abs (x -ℤ y) in
    let same : (v : Fraction) → SidesMeet x l r y k t v ↔ (g * v.den < w.0 * v.num) = λ v. sides_by_distance x l r y k t g w.0 v one other refl w.2 w.3 w.4 in
    (same u).1 (less_on g w.0 s.num s.den u s.positive ((same s).0 meet) upto)

-- anchors further apart than any sides reach
pub far_sides : (x l r y k t : ℤ) (g num den : ℕ) → IsStretch l r → IsStretch k t → 0 < den → g ≡ unsigned_abs (x -ℤ y) → 1152 * num ≤ g * den → SidesAreApart x l r y k t num den
far_sides x l r y k t g num den one other positive far most s upto meet =
    let w = toward x l r y k t one other in
    let less = (sides_by_distance x l r y k t g w.0 s one other far w.2 w.3 w.4).0 meet in
    let n = most_back g 1152 num den s positive most upto in
    let m = mul-le w.0 s.num 1152 s.num w.1 (omega arith) in
    absurd (omega arith)

-- what is at most so much at a scale is less at each above it, where it is not 0
less_above : (g w num den : ℕ) (s : Fraction) → 0 < den → 0 < w → g * den ≤ w * num → IsAbove num den s → g * s.den < w * s.num
less_above g w num den s positive some most above =
    let a : Fraction = record { num = g; den = w; positive = some } in
    let b : Fraction = record { num = num; den = den; positive = positive } in
    let h : IsAtMost a b = omega arith in
    let k : IsLess b s = above in
    let m : IsLess a s = at_most_less a b s h k in
    omega arith

-- the fraction (num*(w + 1) + 1) / (den*(w + 1)), a little above num/den
little_above : (num den w : ℕ) → 0 < den → Fraction
little_above num den w positive = record { num = num * (w + 1) + 1; den = den * (w + 1); positive = mul-lt 0 0 den (w + 1) positive (omega arith) }

-- what is more at a scale is no less at some one above it
more_above : (g w num den : ℕ) → w * num < g * den → w * (num * (w + 1) + 1) ≤ g * (den * (w + 1))
more_above g w num den more = let m = mul-le (w * num + 1) (w + 1) (g * den) (w + 1) (omega arith) (omega arith) in omega arith

-- sides are apart at a scale and some greater one, or near at each above it
pub clear_or_near : (x l r y k t : ℤ) (g w num den : ℕ) (b : Bool) → IsStretch l r → IsStretch k t → 0 < den → g ≡ unsigned_abs (x -ℤ y) →
    (x <ℤ y → pos w ≡ (r -ℤ k)) → (y <ℤ x → pos w ≡ (t -ℤ l)) → (x ≡ y → pos w ≡ int_min (r -ℤ k) (t -ℤ l)) →
    (b ≡ true → (w ≡ 0) ⊎ (w * num < g * den)) → (b ≡ false → (0 < w) × (g * den ≤ w * num)) →
    MatchBool b (SidesAreClear x l r y k t num den) (SidesAreNearAbove x l r y k t num den)
unfolding little_above
clear_or_near x l r y k t g w num den true one other positive far ahead behind here more most =
    let u = little_above num den w positive in (
      u,
      omega arith,
      λ s upto meet.
          let m = (sides_by_distance x l r y k t g w s one other far ahead behind here).0 meet in
          elim (more refl) [
            | inl none ↦ let z : w * s.num ≡ 0 = rw none (omega arith) in absurd (omega arith)
            | inr less ↦ let n = most_back g w u.num u.den s u.positive (more_above g w num den less) upto in absurd (omega arith)
          ],
    )
clear_or_near x l r y k t g w num den false one other positive far ahead behind here more most = λ s above.
    (sides_by_distance x l r y k t g w s one other far ahead behind here).1 (less_above g w num den s positive (most refl).0 (most refl).1 above)

-- ---- labels and their extents

-- sides within others meet no earlier than these
sides_within : (x l r y k t m n p q : ℤ) (s : Fraction) → m ≤ℤ l → r ≤ℤ n → p ≤ℤ k → t ≤ℤ q → SidesMeet x l r y k t s → SidesMeet x m n y p q s
unfolding IsBelow
sides_within x l r y k t m n p q s a b c d meet =
    let e = scaled_le m l s.num a in
    let f = scaled_le r n s.num b in
    let g = scaled_le p k s.num c in
    let h = scaled_le t q s.num d in
    let one = meet.0 in let other = meet.1 in
    (omega (arith, ints), omega (arith, ints))

-- where labels overlap, so do their extents
pub extents_overlap : (a b : Label) (s : Fraction) → Overlap a b s → ExtentsOverlap a b s
unfolding Overlap BoxesOverlap
extents_overlap a b s any =
    let p = any.1 in
    let other = any.4 in
    let q = other.1 in
    let boxes = other.4 in
    let ha : Holds (reach_of a) (widened a p) = at_place (λ o. Holds (reach_of a) (widened a o)) a.boxes any.0 p (reach_holds a) any.2 any.3 in
    let hb : Holds (reach_of b) (widened b q) = at_place (λ o. Holds (reach_of b) (widened b o)) b.boxes other.0 q (reach_holds b) other.2 other.3 in (
      sides_within a.x (widened a p).l (widened a p).r b.x (widened b q).l (widened b q).r _ _ _ _ s ha.l ha.r hb.l hb.r boxes.0,
      sides_within a.y (widened a p).b (widened a p).t b.y (widened b q).b (widened b q).t _ _ _ _ s ha.b ha.t hb.b hb.t boxes.1,
    )

-- and extents that overlap at a scale overlap at each greater one
pub extents_grow : (a b : Label) (s u : Fraction) → IsAtMost s u → ExtentsOverlap a b s → ExtentsOverlap a b u
extents_grow a b s u upto over = (
  sides_grow a.x (reach_of a).l (reach_of a).r b.x (reach_of b).l (reach_of b).r s u (reach_extent a).wide (reach_extent b).wide upto over.0,
  sides_grow a.y (reach_of a).b (reach_of a).t b.y (reach_of b).b (reach_of b).t s u (reach_extent a).high (reach_extent b).high upto over.1,
)
