-- Facts of intervals of fractions, whose lower end is counted in or not.
use Rattle.std.proofs.Common.{◌≡◌, ℕ, arith, ◌*◌, Bool, true, false, ◌⊎◌, inl, inr}
use Rattle.std.proofs.lemmas.Bool.{cases_lt}
use Rattle.std.proofs.lemmas.Bool.Decides.{nat_tests}
use Rattle.std.specs.Ordering.{nat_cmp}
use Rattle.std.specs.declared.cmp.Ordering.TheVariants.{Equal}
use Rattle.std.specs.Prelude.{MatchBool}
use Rattle.ml_ratio.specs.Fraction.{Fraction, value_of, IsLess, IsAtMost, IsSame}
use Rattle.ml_ratio.specs.RatioExact.{ratio_exact}
use Rattle.ml_ratio.specs.declared.ratio.Ratio.{Ratio}
use Rattle.ml_ratio.proofs.lemmas.Fractions.{middle, middle_above, middle_below, less_at_most, at_most_less, less_trans, at_most_trans}

-- s lies beyond the lower end f, or is f where that is counted in
abbrev pub IsFrom : Bool → Fraction → Fraction → Type 0
IsFrom from_in f s = MatchBool from_in (IsAtMost f s) (IsLess f s)

-- s does not lie so
abbrev pub IsBefore : Bool → Fraction → Fraction → Type 0
IsBefore from_in f s = MatchBool from_in (IsLess s f) (IsAtMost s f)

-- what lies from f on is at least f, whether f is counted in or not
pub from_least : (b : Bool) (f s : Fraction) → IsFrom b f s → IsAtMost f s
from_least true f s h = h
from_least false f s h = omega arith

-- what is above f lies from f on, whether f is counted in or not
pub from_above : (b : Bool) (f s : Fraction) → IsLess f s → IsFrom b f s
from_above true f s h = omega arith
from_above false f s h = h

-- what is no less than something that lies from f on lies from f on, too
pub from_up : (b : Bool) (f s t : Fraction) → IsFrom b f s → IsAtMost s t → IsFrom b f t
from_up true f s t h k = at_most_trans f s t h k
from_up false f s t h k = less_at_most f s t h k

-- what lies before is at most f, whether f is counted in or not
pub before_most : (b : Bool) (f s : Fraction) → IsBefore b f s → IsAtMost s f
before_most true f s h = omega arith
before_most false f s h = h

-- nothing lies both before and from f on
pub not_both : (b : Bool) (f s : Fraction) → IsBefore b f s → IsFrom b f s → ⊥
not_both true f s h k = omega arith
not_both false f s h k = omega arith

-- what does not lie from f on lies before
pub before_else : (b : Bool) (f s : Fraction) → ¬ (IsFrom b f s) → IsBefore b f s
before_else true f s h = elim (cases_lt (s.num * f.den) (f.num * s.den)) [ inl less ↦ less | inr more ↦ absurd (h more) ]
before_else false f s h = elim (cases_lt (f.num * s.den) (s.num * f.den)) [ inl less ↦ absurd (h less) | inr more ↦ more ]

-- of two orders of a pair, one holds
pub either_way : (s t : Fraction) → IsAtMost s t ⊎ IsAtMost t s
either_way s t = elim (cases_lt (t.num * s.den) (s.num * t.den)) [ inl less ↦ inr (omega arith) | inr more ↦ inl more ]

-- fractions in lowest terms that have the same value are the same
pub equal_ratio : (a b : Ratio) → IsSame (value_of a) (value_of b) → a ≡ b
equal_ratio a b e = ratio_exact a b (same_cmp (a.num * b.den) (b.num * a.den) e)
  where
    same_cmp : (p q : ℕ) → p ≡ q → nat_cmp p q ≡ Equal
    same_cmp p q e = grind (arith, nat_tests)

-- s lies in the interval from f up to t
abbrev pub IsWithin : Bool → Fraction → Fraction → Fraction → Type 0
IsWithin from_in f t s = IsFrom from_in f s × IsLess s t

-- an interval holds what lies in the middle of it
pub holds_middle : (b : Bool) (f t : Fraction) → IsLess f t → IsWithin b f t (middle f t)
holds_middle b f t some = (from_above b f (middle f t) (middle_above f t some), middle_below f t some)

-- an interval that holds all that another holds begins no later
pub begins_by : (b c : Bool) (f t g u : Fraction) → IsLess f t → ((s : Fraction) → IsWithin b f t s → IsWithin c g u s) → IsAtMost g f
begins_by b c f t g u some all =
    elim (cases_lt (f.num * g.den) (g.num * f.den)) [
      | inl less ↦ elim (cases_lt (t.num * g.den) (g.num * t.den)) [
        | inl early ↦
            let held = all (middle f t) (holds_middle b f t some) in
            let late = from_least c g (middle f t) held.0 in
            let under = less_trans (middle f t) t g (middle_below f t some) early in
            absurd (omega arith)
        | inr late ↦
            let below = middle_below f g less in
            let held = all (middle f g) (from_above b f (middle f g) (middle_above f g less), less_at_most (middle f g) g t below late) in
            let after = from_least c g (middle f g) held.0 in
            absurd (omega arith)
      ]
      | inr more ↦ more
    ]

-- an interval that holds all that another holds ends no earlier
pub ends_by : (b c : Bool) (f t g u : Fraction) → IsLess f t → ((s : Fraction) → IsWithin b f t s → IsWithin c g u s) → IsAtMost t u
ends_by b c f t g u some all =
    elim (cases_lt (u.num * t.den) (t.num * u.den)) [
      | inl less ↦ elim (cases_lt (u.num * f.den) (f.num * u.den)) [
        | inl early ↦
            let held = all (middle f t) (holds_middle b f t some) in
            let over = less_trans u f (middle f t) early (middle_above f t some) in
            absurd (let h = held.1 in omega arith)
        | inr late ↦
            let above = middle_above u t less in
            let held = all (middle u t) (from_above b f (middle u t) (at_most_less f u (middle u t) late above), middle_below u t less) in
            absurd (let h = held.1 in omega arith)
      ]
      | inr more ↦ more
    ]
