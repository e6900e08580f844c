-- Smaller ends are allowed too; and there is at most one longest choice.
use Rattle.std.proofs.Common.{ℕ, zero, suc, ◌*◌, ◌<◌, ◌≤◌, List, length, arith, inl, inr}
use Rattle.std.proofs.lemmas.Bool.{cases_eq, cases_lt}
use Rattle.ml_ratio.specs.Fraction.{Fraction, IsLess, IsAtMost, IsSame}
use Rattle.ml_cone.specs.Choice.{Allows, Choice, IsLongest}
use Rattle.ml_cone.specs.declared.label.Label.{Label}
use Rattle.ml_ratio.proofs.lemmas.Fractions.{order}

-- a smaller end, and a smaller end of the other, are allowed too
pub Allows-smaller : (low high : Label) (u v e f : Fraction) → IsAtMost v u → IsAtMost e f → Allows low high u f → Allows low high v e
unfolding Allows
Allows-smaller low high u v e f p q all s scale a b =
    all s scale (a.0, grind (arith, order)) (b.0, grind (arith, order))

module _ (labels : List Label) (b c : Choice) (p : IsLongest labels b) (q : IsLongest labels c) where
  agree_here : (i : ℕ) → i < length labels → ((j : ℕ) → j < i → IsSame (b j) (c j)) → IsSame (b i) (c i)
  agree_here i in' before =
      elim (cases_eq ((b i).num * (c i).den) ((c i).num * (b i).den)) [
        | inl e ↦ e
        | inr differ ↦
            let one : IsLess (b i) (c i) = q.greatest b p.is_choice p.free i in' (record { before = before; here = differ }) in
            let two : IsLess (c i) (b i) = p.greatest c q.is_choice q.free i in' (record { before = λ j lt. let e = before j lt in omega arith; here = λ e. differ (omega arith) }) in
            absurd (omega arith)
      ]

  agree_below : (n : ℕ) → n ≤ length labels → (i : ℕ) → i < n → IsSame (b i) (c i)
  agree_below zero h i lt = absurd (omega arith)
  agree_below (suc n) h i lt =
      elim (cases_lt i n) [
        | inl less ↦ agree_below n (omega arith) i less
        | inr more ↦ agree_here i (omega arith) (λ j less. agree_below n (omega arith) j (omega arith))
      ]

-- two longest choices agree
pub longest_unique : (labels : List Label) (b c : Choice) → IsLongest labels b → IsLongest labels c → (i : ℕ) → i < length labels → IsSame (b i) (c i)
longest_unique labels b c p q i in' = agree_below labels b c p q (length labels) (omega arith) i in'
