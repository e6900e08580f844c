-- Stays that ascend and do not join are the maximal intervals of the set of what they hold.
use Rattle.std.proofs.Common.{ℕ, ◌<◌, ◌↔◌, List, length, get_or, arith, refl, sym, subst, Bool, true, false, IsTrue, inl, inr}
use Rattle.std.proofs.lemmas.Bool.{cases_order}
use Rattle.ml_ratio.specs.Fraction.{Fraction, value_of, IsLess, IsAtMost}
use Rattle.ml_ratio.proofs.lemmas.Fractions.{less_at_most, at_most_trans, less_is_at_most}
use Rattle.ml_flight.specs.Stay.{HoldsScale, HaveScale, AreApart}
use Rattle.ml_flight.specs.Stays.{IsBetween, AreMaximal}
use Rattle.ml_flight.specs.declared.stay.Stay.{Stay}
use Rattle.ml_ratio.proofs.lemmas.Intervals.{IsFrom, from_least, before_most, not_both, either_way}
use Rattle.ml_ratio.proofs.lemmas.Anys.{any_at, any_of}

-- the lower end is held only where it is counted in
begun_at_from : (b : Bool) (f : Fraction) → IsFrom b f f → IsTrue b
begun_at_from true f h = refl
begun_at_from false f h = absurd (omega arith)

from_in_begun : (b : Bool) (f : Fraction) → IsTrue b → IsFrom b f f
from_in_begun true f h = omega arith
from_in_begun false f h = absurd (cc)

module _ (stays : List Stay) (apart : AreApart stays) where
  -- an end that another stay follows is not held
  end_is_free : (j k : ℕ) (d : Stay) → j < k → k < length stays → ¬ (HaveScale stays (value_of (get_or stays j d).to))
  end_is_free j k d less lt any =
      let a : Stay = get_or stays j d in
      let found = any_at (λ b. HoldsScale b (value_of a.to)) stays d any in
      let m = found.0 in
      let b : Stay = get_or stays m d in
      let held : HoldsScale b (value_of a.to) = found.2 in
      elim (cases_order j m) [
        | inl same ↦ let own : HoldsScale a (value_of a.to) = subst (λ (n : ℕ). HoldsScale (get_or stays n d) (value_of a.to)) (sym same) held in
            let h : IsLess (value_of a.to) (value_of a.to) = own.1 in omega arith
        | inr (inl after) ↦ not_both b.from_in (value_of b.from) (value_of a.to) (apart j m d after found.1) held.0
        | inr (inr before) ↦
            let low : IsAtMost (value_of b.to) (value_of a.from) = before_most a.from_in (value_of a.from) (value_of b.to) (apart m j d before (omega arith)) in
            let some : IsLess (value_of a.from) (value_of a.to) = a.some in
            let h : IsLess (value_of a.to) (value_of a.from) = less_at_most (value_of a.to) (value_of b.to) (value_of a.from) held.1 low in
            omega arith
      ]

  -- where all between two held fractions is held, one stay holds both
  same_stay : (s t : Fraction) → ((r : Fraction) → IsBetween s t r → HaveScale stays r) → (j k : ℕ) (d : Stay) → j < length stays → k < length stays →
      HoldsScale (get_or stays j d) s → HoldsScale (get_or stays k d) t → HoldsScale (get_or stays k d) s
  same_stay s t all j k d in' in'' hs ht =
      let a : Stay = get_or stays j d in
      let b : Stay = get_or stays k d in
      elim (cases_order j k) [
        | inl same ↦ rw (← same) hs
        | inr (inl before) ↦
            let gap : IsAtMost (value_of a.to) (value_of b.from) = before_most b.from_in (value_of b.from) (value_of a.to) (apart j k d before in'') in
            let low : IsAtMost s (value_of a.to) = less_is_at_most s (value_of a.to) hs.1 in
            let high : IsAtMost (value_of a.to) t = at_most_trans (value_of a.to) (value_of b.from) t gap (from_least b.from_in (value_of b.from) t ht.0) in
            absurd (end_is_free j k d before in'' (all (value_of a.to) (inl (low, high))))
        | inr (inr after) ↦
            let gap : IsAtMost (value_of b.to) (value_of a.from) = before_most a.from_in (value_of a.from) (value_of b.to) (apart k j d after in') in
            let low : IsAtMost t (value_of b.to) = less_is_at_most t (value_of b.to) ht.1 in
            let high : IsAtMost (value_of b.to) s = at_most_trans (value_of b.to) (value_of a.from) s gap (from_least a.from_in (value_of a.from) s hs.0) in
            absurd (end_is_free k j d after in' (all (value_of b.to) (inr (low, high))))
      ]

  -- a stay's lower end is held by that stay alone
  from_held : (j k : ℕ) (d : Stay) → j < length stays → k < length stays →
      HoldsScale (get_or stays j d) (value_of (get_or stays k d).from) → HoldsScale (get_or stays k d) (value_of (get_or stays k d).from)
  from_held j k d in' in'' held =
      let a : Stay = get_or stays j d in
      let b : Stay = get_or stays k d in
      let some : IsLess (value_of b.from) (value_of b.to) = b.some in
      elim (cases_order j k) [
        | inl same ↦ subst (λ (m : ℕ). HoldsScale (get_or stays m d) (value_of b.from)) same held
        | inr (inl before) ↦
            let gap : IsAtMost (value_of a.to) (value_of b.from) = before_most b.from_in (value_of b.from) (value_of a.to) (apart j k d before in'') in
            absurd (let h : IsLess (value_of b.from) (value_of a.to) = held.1 in omega arith)
        | inr (inr after) ↦
            let gap : IsAtMost (value_of b.to) (value_of a.from) = before_most a.from_in (value_of a.from) (value_of b.to) (apart k j d after in') in
            let low : IsAtMost (value_of a.from) (value_of b.from) = from_least a.from_in (value_of a.from) (value_of b.from) held.0 in
            let h : IsAtMost (value_of b.to) (value_of b.from) = at_most_trans (value_of b.to) (value_of a.from) (value_of b.from) gap low in
            absurd (omega arith)
      ]

  -- stays that ascend and do not join are the maximal intervals of any set that has just what they hold
  pub apart_maximal : (S : Fraction → Type 0) → ((s : Fraction) → S s ↔ HaveScale stays s) → AreMaximal S stays
  apart_maximal S same = record {
    ascending = λ j k d less lt. let b : Stay = get_or stays k d in before_most b.from_in (value_of b.from) (value_of (get_or stays j d).to) (apart j k d less lt);
    maximal = λ k d in'.
        let b : Stay = get_or stays k d in
        record {
          within = λ s h. (same s).1 (any_of (λ a. HoldsScale a s) stays k d in' h);
          whole = λ s t ht all.
              let here : IsBetween s t s = elim (either_way s t) [ inl up ↦ inl (omega arith, up) | inr down ↦ inr (down, omega arith) ] in
              let at = any_at (λ a. HoldsScale a s) stays d ((same s).0 (all s here)) in
              same_stay s t (λ r between. (same r).0 (all r between)) at.0 k d at.1 in' at.2 ht;
          from_in = (
            λ h. (same (value_of b.from)).1 (any_of (λ a. HoldsScale a (value_of b.from)) stays k d in' (from_in_begun b.from_in (value_of b.from) h, b.some)),
            λ h.
                let at = any_at (λ a. HoldsScale a (value_of b.from)) stays d ((same (value_of b.from)).0 h) in
                begun_at_from b.from_in (value_of b.from) (from_held at.0 k d at.1 in' at.2).0,
          );
        };
    complete = λ s h. (same s).0 h;
  }
