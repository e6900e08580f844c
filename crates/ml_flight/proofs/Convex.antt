-- What is shown of one box is an interval of scales.
use Rattle.std.proofs.Common.{◌≡◌, ℕ, zero, suc, ◌*◌, ◌/◌, ◌%◌, ◌<◌, ◌≤◌, List, [], ◌∷◌, length, get_or, arith, subst, ℤ, pos, negsuc, inl, inr}
use Rattle.std.specs.Prelude.{Any}
use Rattle.std.proofs.lemmas.Bool.{cases_lt}
use Rattle.std.proofs.lemmas.Int.{ints}
use Rattle.std.proofs.lemmas.List.{get_or_default}
use Rattle.std.proofs.Math.Nat.{mul-pos}
use Rattle.ml_ratio.specs.Fraction.{Fraction, value_of, IsLess, IsAtMost, IsScale}
use Rattle.ml_ratio.proofs.lemmas.Fractions.{less_at_most, at_most_less, at_most_trans, middle, middle_above, middle_below}
use Rattle.ml_cone.specs.Plane.{SideInWindow}
use Rattle.ml_cone.specs.declared.label.BoxPx.{BoxPx}
use Rattle.ml_cone.specs.declared.label.Label.{Label}
use Rattle.ml_cone.specs.declared.slot.Span.{Span}
use Rattle.ml_flight.specs.Shown.{BoxInWindow, IsInWindow, IsShownAt}
use Rattle.ml_flight.specs.Stay.{HoldsScale}
use Rattle.ml_flight.specs.Stays.{IsMaximal, AreMaximal}
use Rattle.ml_flight.specs.declared.stay.Stay.{Stay}
use Rattle.ml_flight.specs.declared.window.Window.{Window}
use Rattle.ml_ratio.proofs.lemmas.Anys.{any_at}
use Rattle.ml_flight.proofs.HalfLines.{IsBeyond, side_by_halves}
use Rattle.ml_ratio.proofs.lemmas.Intervals.{from_least, from_above}

-- an inequality u < v * s that holds at two fractions holds between them
beyond_between : (u v : ℤ) (s r t : Fraction) → IsAtMost s r → IsAtMost r t → IsBeyond u v s → IsBeyond u v t → IsBeyond u v r
beyond_between (negsuc a) (pos b) s r t low high hs ht = let d = r.positive in omega (arith, ints)
beyond_between (pos a) (pos zero) s r t low high hs ht = absurd (omega (arith, ints))
beyond_between (pos a) (pos (suc b)) s r t low high hs ht =
    let q : Fraction = record { num = a; den = suc b; positive = omega arith } in
    let l : IsLess q r = less_at_most q s r (omega (arith, ints)) low in
    omega (arith, ints)
beyond_between (pos a) (negsuc b) s r t low high hs ht = absurd (omega (arith, ints))
beyond_between (negsuc a) (negsuc b) s r t low high hs ht =
    let q : Fraction = record { num = suc a; den = suc b; positive = omega arith } in
    let l : IsLess r q = at_most_less r t q high (omega (arith, ints)) in
    omega (arith, ints)

side_between : (x l r c : ℤ) (w : ℕ) (s m t : Fraction) → w % 2 ≡ 0 → IsAtMost s m → IsAtMost m t → SideInWindow x l r c w s → SideInWindow x l r c w t → SideInWindow x l r c w m
side_between x l r c w s m t even low high hs ht =
    let e : w ≡ 2 * (w / 2) = omega arith in
    let a = (side_by_halves x l r c w (w / 2) s e).0 hs in
    let b = (side_by_halves x l r c w (w / 2) t e).0 ht in
    (side_by_halves x l r c w (w / 2) m e).1 (beyond_between _ _ s m t low high a.0 b.0, beyond_between _ _ s m t low high a.1 b.1)

box_between : (a : Label) (at : Window) (p : BoxPx) (s m t : Fraction) → IsAtMost s m → IsAtMost m t → BoxInWindow a at p s → BoxInWindow a at p t → BoxInWindow a at p m
unfolding BoxInWindow
box_between a at p s m t low high hs ht =
    (side_between a.x p.l p.r at.cx at.w s m t at.even_w low high hs.0 ht.0, side_between a.y p.b p.t at.cy at.h s m t at.even_h low high hs.1 ht.1)

scale_up : (s m : Fraction) → IsScale s → IsAtMost s m → IsScale m
scale_up s m scale low =
    elim (cases_lt 0 m.num) [
      | inl some ↦ some
      | inr none ↦
          let z : m.num ≡ 0 = omega arith in
          let k : s.num * m.den ≤ m.num * s.den = low in
          let l = rw z at k in
          let p : 0 < s.num * m.den = mul-pos scale m.positive in
          absurd (omega arith)
    ]

-- a label of one box that is shown at two scales is shown at every scale between
shown_between : (a : Label) (span : Span) (at : Window) (s m t : Fraction) → length a.boxes ≡ 1 → IsAtMost s m → IsAtMost m t → IsShownAt a span at s → IsShownAt a span at t → IsShownAt a span at m
unfolding IsInWindow
shown_between a span at s m t one low high hs ht = (
  scale_up s m hs.0 low,
  (at_most_trans (value_of span.min) s m hs.1.0 low, at_most_less m t (value_of span.until) high ht.1.1),
  (0, d, omega arith, first, box_between a at d s m t low high (here s hs.2) (here t ht.2)),
)
  where
    d : BoxPx
    d = get_or a.boxes 0 (record { l = pos 0; b = pos 0; r = pos 0; t = pos 0 })

    first : get_or a.boxes 0 d ≡ d
    first = get_or_default a.boxes 0 d (record { l = pos 0; b = pos 0; r = pos 0; t = pos 0 }) (omega arith)

    here : (r : Fraction) → Any (λ p. BoxInWindow a at p r) a.boxes → BoxInWindow a at d r
    here r any =
        let k = any_at (λ p. BoxInWindow a at p r) a.boxes d any in
        let z : k.0 ≡ 0 = (let lt = k.1 in omega arith) in
        subst (λ (p : BoxPx). BoxInWindow a at p r) first (subst (λ (n : ℕ). BoxInWindow a at (get_or a.boxes n d) r) z k.2)

-- a fraction that a stay holds
middle_held : (stay : Stay) → HoldsScale stay (middle (value_of stay.from) (value_of stay.to))
middle_held stay = (
  from_above stay.from_in (value_of stay.from) (middle (value_of stay.from) (value_of stay.to)) (middle_above (value_of stay.from) (value_of stay.to) stay.some),
  middle_below (value_of stay.from) (value_of stay.to) stay.some,
)

-- so a label of one box has at most one stay
pub one_stay : (a : Label) (span : Span) (at : Window) (stays : List Stay) → length a.boxes ≡ 1 → AreMaximal (IsShownAt a span at) stays → length stays ≤ 1
one_stay a span at [] one are = omega arith
one_stay a span at (x ∷ []) one are = omega arith
one_stay a span at (x ∷ y ∷ rest) one are =
    let S = IsShownAt a span at in
    let first : IsMaximal S x = are.maximal 0 x (omega arith) in
    let second : IsMaximal S y = are.maximal 1 x (omega arith) in
    let gap : IsAtMost (value_of x.to) (value_of y.from) = are.ascending 0 1 x (omega arith) (omega arith) in
    let s = middle (value_of x.from) (value_of x.to) in
    let t = middle (value_of y.from) (value_of y.to) in
    let hs = middle_held x in
    let ht = middle_held y in
    let below : IsLess s (value_of y.from) = less_at_most s (value_of x.to) (value_of y.from) hs.1 gap in
    let above : IsAtMost (value_of y.from) t = from_least y.from_in (value_of y.from) t ht.0 in
    let order : IsLess s t = less_at_most s (value_of y.from) t below above in
    let held : HoldsScale y s = second.whole s t ht (λ r between. elim between [
      | inl up ↦ shown_between a span at s r t one up.0 up.1 (first.within s hs) (second.within t ht)
      | inr down ↦ absurd (let h : IsAtMost t s = at_most_trans t r s down.0 down.1 in omega arith)
    ]) in
    let from : IsAtMost (value_of y.from) s = from_least y.from_in (value_of y.from) s held.0 in
    absurd (omega arith)
