-- Whether two values that have codes are the same.
use Rattle.std.proofs.Common.{◌≡◌, ◌≢◌, ℕ, ◌⊎◌, inl, inr, ap}
use Rattle.std.proofs.lemmas.Bool.{cases_eq}
use base.Stored.{Coded, Gv, gnil, gnum, gcons}

number_is : (m n : ℕ) → gnum m ≡ gnum n → m ≡ n
number_is m n e = cc

first_is : (a b c d : Gv) → gcons a b ≡ gcons c d → a ≡ c
first_is a b c d e = cc

second_is : (a b c d : Gv) → gcons a b ≡ gcons c d → b ≡ d
second_is a b c d e = cc

same_code : (a b : Gv) → (a ≡ b) ⊎ (a ≢ b)
same_code gnil gnil = inl (λ i. gnil)
same_code gnil (gnum n) = inr (λ e. cc)
same_code gnil (gcons c d) = inr (λ e. cc)
same_code (gnum m) gnil = inr (λ e. cc)
same_code (gnum m) (gnum n) = elim (cases_eq m n) [
  | inl e ↦ inl (ap gnum e)
  | inr other ↦ inr (λ e. other (number_is m n e))
]
same_code (gnum m) (gcons c d) = inr (λ e. cc)
same_code (gcons a b) gnil = inr (λ e. cc)
same_code (gcons a b) (gnum n) = inr (λ e. cc)
same_code (gcons a b) (gcons c d) = elim (same_code a c) [
  | inl first ↦ elim (same_code b d) [
    | inl second ↦ inl (λ i. gcons (first i) (second i))
    | inr other ↦ inr (λ e. other (second_is a b c d e))
  ]
  | inr other ↦ inr (λ e. other (first_is a b c d e))
]

-- two values are the same or not, where each has a code of its own
pub same_or_not : {A : Type 0} → Coded A → (x y : A) → (x ≡ y) ⊎ (x ≢ y)
same_or_not c x y = elim (same_code (c.code x) (c.code y)) [
  | inl e ↦ inl (c.inj x y e)
  | inr other ↦ inr (λ e. other (ap c.code e))
]
