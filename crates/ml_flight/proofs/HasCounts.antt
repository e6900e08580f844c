-- The number of elements with a property, against sums of terms that are 1 where it holds and 0 where it does not.
use Rattle.std.proofs.Common.{◌≡◌, ℕ, suc, ◌≤◌, ◌↔◌, List, [], ◌∷◌, length, arith, refl, ◌⊎◌, inl, inr, subst, sym}
use Rattle.std.specs.Prelude.{All, sum_by}
use Rattle.std.proofs.lemmas.List.Elements.{All-head, All-tail}
use Rattle.std.proofs.lemmas.List.Sums.{sum_by-cons}
use Rattle.ml_flight.specs.Peak.{HasCount, none, counted, passed}

-- the term is 1 where the property holds and 0 where it does not
abbrev pub Tells : {X : Type 0} → (X → Type 0) → (X → ℕ) → X → Type 0
Tells P f x = (P x × (f x ≡ 1)) ⊎ (¬ (P x) × (f x ≡ 0))

-- a number of elements with the property can only be the sum of the terms
pub count_is : {X : Type 0} (P : X → Type 0) (f : X → ℕ) (xs : List X) → All (Tells P f) xs → (n : ℕ) → HasCount P xs n → n ≡ sum_by f xs
count_is P f [] all n none = refl
count_is P f (x ∷ xs) all (suc n) (counted p rest) =
    elim (All-head (Tells P f) x xs all) [
      | inl holds ↦ (let one = holds.1 in omega (arith, sum_by-cons f x xs, count_is P f xs (All-tail (Tells P f) x xs all) n rest))
      | inr fails ↦ absurd (fails.0 p)
    ]
count_is P f (x ∷ xs) all n (passed q rest) =
    elim (All-head (Tells P f) x xs all) [
      | inl holds ↦ absurd (q holds.0)
      | inr fails ↦ (let zero' = fails.1 in omega (arith, sum_by-cons f x xs, count_is P f xs (All-tail (Tells P f) x xs all) n rest))
    ]

-- where a term tells of each element whether it has the property, as many have it as the terms add up to
pub has_count : {X : Type 0} (P : X → Type 0) (f : X → ℕ) (xs : List X) → All (Tells P f) xs → HasCount P xs (sum_by f xs)
has_count P f [] all = none
has_count {X} P f (x ∷ xs) all =
    let rest = has_count P f xs (All-tail (Tells P f) x xs all) in
    elim (All-head (Tells P f) x xs all) [
      | inl holds ↦
          let e : sum_by f (x ∷ xs) ≡ suc (sum_by f xs) = (let one = holds.1 in omega (arith, sum_by-cons f x xs)) in
          subst (λ (n : ℕ). HasCount P (x ∷ xs) n) (sym e) (counted holds.0 rest)
      | inr fails ↦
          let e : sum_by f (x ∷ xs) ≡ sum_by f xs = (let zero' = fails.1 in omega (arith, sum_by-cons f x xs)) in
          subst (λ (n : ℕ). HasCount P (x ∷ xs) n) (sym e) (passed fails.0 rest)
    ]

-- no more elements have the property than there are
pub count_low : {X : Type 0} (P : X → Type 0) (xs : List X) (n : ℕ) → HasCount P xs n → n ≤ length xs
count_low P [] n none = omega arith
count_low P (x ∷ xs) (suc n) (counted p rest) = omega (arith, count_low P xs n rest)
count_low P (x ∷ xs) n (passed q rest) = omega (arith, count_low P xs n rest)

-- of a property that holds of the same elements
pub count_like : {X : Type 0} (P Q : X → Type 0) (xs : List X) (n : ℕ) → All (λ x. P x ↔ Q x) xs → HasCount P xs n → HasCount Q xs n
count_like P Q [] n same none = none
count_like P Q (x ∷ xs) (suc n) same (counted p rest) = counted ((All-head (λ y. P y ↔ Q y) x xs same).0 p) (count_like P Q xs n (All-tail (λ y. P y ↔ Q y) x xs same) rest)
count_like P Q (x ∷ xs) n same (passed q rest) = passed (λ h. q ((All-head (λ y. P y ↔ Q y) x xs same).1 h)) (count_like P Q xs n (All-tail (λ y. P y ↔ Q y) x xs same) rest)
