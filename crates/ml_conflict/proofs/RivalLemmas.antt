-- Two labels are rivals, or the one sets the other no limit.
use Rattle.std.proofs.Common.{◌≡◌, ◌*◌, ◌⊎◌, inl, inr, arith, Option, Some, None, true, false, refl, ◌↔◌, IsTrue}
use Rattle.std.specs.Prelude.{IfSome, IfNone, is_some}
use Rattle.ml_ratio.specs.declared.ratio.Ratio.{Ratio}
use Rattle.std.proofs.lemmas.Bool.{cases_lt}
use Rattle.ml_ratio.specs.Fraction.{Fraction, value_of, IsLess, IsAtMost}
use Rattle.ml_cone.specs.Choice.{Allows, IsLimit, CoversFrom}
use Rattle.ml_cone.specs.Rivals.{AreRivals}
use Rattle.ml_cone.specs.declared.label.Label.{Label}
use Rattle.ml_ratio.proofs.lemmas.Fractions.{at_most_less, middle, middle_above, middle_below, scale_above}
use Rattle.ml_conflict.proofs.Openness.{under_both}
use Rattle.ml_conflict.proofs.Greedy.{Allows-smaller}
use Rattle.ml_conflict.proofs.Limits.{covers_of_limit, has_limit}

-- a label that limits another while it is active up to its maximum is its rival
pub rivals_of_limit : (low high : Label) (f : Fraction) → IsLimit low high (value_of high.max) f → IsLess f (value_of low.max) → AreRivals low high
unfolding CoversFrom AreRivals
rivals_of_limit low high f limit below =
    let w = covers_of_limit low high (value_of high.max) f limit below in
    let m = under_both w.0 (Some (value_of low.max)) in
    let up : IsLess f m.0 = m.2 f w.1 below in
    let s : Fraction = middle f m.0 in
    let above : IsLess f s = middle_above f m.0 up in
    let under = m.1 s (middle_below f m.0 up) in
    let both = w.2 s above under.0 in
    let from : IsAtMost (value_of low.min) s = (let k : IsLess (value_of low.min) s = at_most_less (value_of low.min) f s limit.is_end.0 above in omega arith) in
    (s, scale_above f s above, (from, under.1), both.0, both.1)

-- a label that allows the maximum at its own maximum is no rival
pub apart_of_allows : (low high : Label) → Allows low high (value_of high.max) (value_of low.max) → ¬ (AreRivals low high)
unfolding Allows AreRivals
apart_of_allows low high all r = all r.0 r.1 r.2 r.3 r.4

-- one of the two
pub rivals_or_free : (low high : Label) → AreRivals low high ⊎ Allows low high (value_of high.max) (value_of low.max)
rivals_or_free low high =
    let g = has_limit low high (value_of high.max) in
    elim (cases_lt (g.0.num * low.max.den) (low.max.num * g.0.den)) [
      | inl less ↦ inl (rivals_of_limit low high g.0 g.1 less)
      | inr more ↦ inr (Allows-smaller low high (value_of high.max) (value_of high.max) (value_of low.max) g.0 (omega arith) more g.1.allowed)
    ]

-- one label limits another, at its own maximum, just where they are rivals
pub rivals_of_block : (low high : Label) (o : Option Ratio) → IfSome o (λ f. IsLimit low high (value_of high.max) (value_of f) × IsLess (value_of f) (value_of low.max)) →
    IfNone o (Allows low high (value_of high.max) (value_of low.max)) → IsTrue (is_some o) ↔ AreRivals low high
rivals_of_block low high None some none = (λ t. absurd (let e : false ≡ true = t in cc), λ r. absurd (apart_of_allows low high none r))
rivals_of_block low high (Some f) some none = (λ t. rivals_of_limit low high (value_of f) some.0 some.1, λ r. refl)
