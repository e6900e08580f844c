-- The steps of a loop over the parts of a union of sets of scales.
use Rattle.std.proofs.Common.{◌≡◌, ℕ, ◌+◌, ◌<◌, ◌≤◌, List, length, get_or, take, arith, subst}
use Rattle.std.proofs.lemmas.List.{take_all, length-take}
use Rattle.std.specs.Prelude.{Any}
use Rattle.ml_ratio.specs.Fraction.{Fraction, IsAtMost}
use Rattle.ml_conflict.specs.Begin.{Begins}
use Rattle.ml_ratio.proofs.lemmas.Anys.{any_more_cases, any_more_left, any_more_here}
use Rattle.ml_conflict.proofs.Openness.{begins_union, none_bound}

module _ {X : Type 0} (P : X → Fraction → Type 0) (xs : List X) (start u bound : Fraction) where
  -- a loop over the parts of a union: at its start, one part more, at its end
  pub loop_none : IsAtMost start bound → Begins (λ s. Any (λ x. P x s) (take 0 xs)) start u bound bound
  loop_none ok = none_bound (λ s. Any (λ x. P x s) (take 0 xs)) start u bound ok (λ s scale p q (k, x, lt, e, h). omega (arith, length-take 0 xs))

  -- where the next part begins, looked for below where those so far begin, is where the union with it begins
  pub loop_more : (ys : List X) (i : ℕ) (d : X) (f g : Fraction) → ys ≡ xs → i < length ys → Begins (λ s. Any (λ x. P x s) (take i xs)) start u bound f →
      Begins (P (get_or ys i d)) start u f g → Begins (λ s. Any (λ x. P x s) (take (i + 1) xs)) start u bound g
  loop_more ys i d f g same lt one two =
      let in' : i < length xs = rw (← same) lt in
      let two' : Begins (P (get_or xs i d)) start u f g = rw (← same) two in
      begins_union (λ s. Any (λ x. P x s) (take i xs)) (P (get_or xs i d)) (λ s. Any (λ x. P x s) (take (i + 1) xs)) start u bound f g
      (λ s any. any_more_cases (λ x. P x s) xs i d in' any) (λ s k. any_more_left (λ x. P x s) xs i d in' k) (λ s k. any_more_here (λ x. P x s) xs i d in' k) one two'

  -- behind the last part, where those so far begin is where the whole union begins
  pub loop_all : (i : ℕ) (f : Fraction) → length xs ≤ i → Begins (λ s. Any (λ x. P x s) (take i xs)) start u bound f → Begins (λ s. Any (λ x. P x s) xs) start u bound f
  loop_all i f h b = subst (λ (ys : List X). Begins (λ s. Any (λ x. P x s) ys) start u bound f) (take_all i xs h) b
