-- Labels have their longest free gaps in one way.
use Rattle.std.proofs.Common.{◌≡◌, ℕ, zero, suc, ◌+◌, ◌-◌, ◌*◌, ◌<◌, ◌≤◌, List, length, get_or, arith, sym, ap, subst, ◌∙◌}
use Rattle.std.proofs.Math.Nat.{mul-pos, eq_of_mul-eq-mul_right}
use Rattle.std.proofs.lemmas.List.{same_lists}
use Rattle.ml_ratio.specs.Fraction.{Fraction, value_of, IsAtMost, IsSame}
use Rattle.ml_ratio.specs.declared.ratio.Ratio.{Ratio}
use Rattle.ml_ratio.proofs.lemmas.Intervals.{equal_ratio}
use Rattle.ml_ratio.proofs.lemmas.Lists.{pick}
use Rattle.ml_cone.specs.declared.label.Label.{Label}
use Rattle.ml_gaps.specs.Gap.{length_of}
use Rattle.ml_gaps.specs.Gaps.{IsFreeOf, IsFreeGap, IsLongestFree, AreGaps}
use Rattle.ml_gaps.specs.declared.gap.Gap.{Gap}

-- plain numbers: p/q and r/t are as far above a/b, x and y being the numerators of the differences
scaled_back : (a b p q r t x y : ℕ) → 0 < b → x + a * q ≡ p * b → y + a * t ≡ r * b → x * (t * b) ≡ y * (q * b) → p * t ≡ r * q
scaled_back a b p q r t x y some ex ey same =
    let one : (x + a * q) * (t * b) ≡ p * b * (t * b) = ap (λ (n : ℕ). n * (t * b)) ex in
    let two : (y + a * t) * (q * b) ≡ r * b * (q * b) = ap (λ (n : ℕ). n * (q * b)) ey in
    let e : (p * t) * (b * b) ≡ (r * q) * (b * b) = omega arith in
    eq_of_mul-eq-mul_right (b * b) (mul-pos some some) (p * t) (r * q) e

same_above : (a b p q r t : ℕ) → 0 < b → a * q ≤ p * b → a * t ≤ r * b → (p * b - a * q) * (t * b) ≡ (r * b - a * t) * (q * b) → p * t ≡ r * q
same_above a b p q r t some first second same =
    let ex : (p * b - a * q) + a * q ≡ p * b = omega arith in
    let ey : (r * b - a * t) + a * t ≡ r * b = omega arith in
    scaled_back a b p q r t (p * b - a * q) (r * b - a * t) some ex ey same

-- ranges from one fraction that are as long end at one
same_end : (f u v : Fraction) → IsAtMost f u → IsAtMost f v → IsSame (length_of f u) (length_of f v) → IsSame u v
unfolding length_of
same_end f u v first second same = same_above f.num f.den u.num u.den v.num v.den f.positive first second same

module _ (labels : List Label) (gaps others : List Gap) (i : ℕ) (same : (j : ℕ) (e : Gap) → j < i → get_or gaps j e ≡ get_or others j e) where
  -- what is free against the labels before with their gaps is so with the others
  free_too : (f u : Fraction) → IsFreeGap labels gaps i f u → IsFreeGap labels others i f u
  free_too f u free = record {
    is_gap = free.is_gap;
    free = λ j d e less. subst (IsFreeOf (get_or labels i d) f u (get_or labels j d)) (same j e less) (free.free j d e less);
  }

  free_back : (f u : Fraction) → IsFreeGap labels others i f u → IsFreeGap labels gaps i f u
  free_back f u free = record {
    is_gap = free.is_gap;
    free = λ j d e less. subst (IsFreeOf (get_or labels i d) f u (get_or labels j d)) (sym (same j e less)) (free.free j d e less);
  }

  -- both have one longest, and one first of the longest
  one_gap : (d : Label) (g h : Gap) → IsLongestFree labels gaps i (value_of g.from) (value_of g.until) → IsLongestFree labels others i (value_of h.from) (value_of h.until) → g ≡ h
  one_gap d g h one two =
      let there = free_too (value_of g.from) (value_of g.until) one.is_free in
      let back = free_back (value_of h.from) (value_of h.until) two.is_free in
      let low = two.longest (value_of g.from) (value_of g.until) there in
      let high = one.longest (value_of h.from) (value_of h.until) back in
      let early = one.first (value_of h.from) (value_of h.until) back (omega arith) in
      let late = two.first (value_of g.from) (value_of g.until) there (omega arith) in
      let from = equal_ratio g.from h.from (omega arith) in
      let long : IsSame (length_of (value_of g.from) (value_of g.until)) (length_of (value_of h.from) (value_of h.until)) = omega arith in
      let here : IsSame (length_of (value_of g.from) (value_of g.until)) (length_of (value_of g.from) (value_of h.until)) =
      subst (λ (r : Ratio). IsSame (length_of (value_of g.from) (value_of g.until)) (length_of (value_of r) (value_of h.until))) (sym from) long in
      let order : IsAtMost (value_of g.from) (value_of h.until) = subst (λ (r : Ratio). IsAtMost (value_of r) (value_of h.until)) (sym from) (two.is_free.is_gap d).order in
      let until = equal_ratio g.until h.until (same_end (value_of g.from) (value_of g.until) (value_of h.until) (one.is_free.is_gap d).order order here) in
      (λ t. record { from = from t; until = until t })

-- the first n gaps are the same
first_same : (labels : List Label) (gaps others : List Gap) → AreGaps labels gaps → AreGaps labels others → (n i : ℕ) (e : Gap) → i < n → i < length labels → get_or gaps i e ≡ get_or others i e
first_same labels gaps others are those zero i e less lt = absurd (omega arith)
first_same labels gaps others are those (suc n) i e less lt =
    one_gap labels gaps others i (λ j u before. first_same labels gaps others are those n j u (omega arith) (omega arith)) (pick labels i lt) (get_or gaps i e) (get_or others i e)
    (are.longest i e lt) (those.longest i e lt)

-- labels have one list of gaps in which each is the longest free one and begins first of those as long
pub one_answer : (labels : List Label) (gaps others : List Gap) → AreGaps labels gaps → AreGaps labels others → gaps ≡ others
one_answer labels gaps others are those =
    let n = are.one_each in
    let m = those.one_each in
    same_lists gaps others (n ∙ sym m) (λ k d lt. first_same labels gaps others are those (suc k) k d (omega arith) (omega arith))
