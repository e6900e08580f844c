-- The places that have a property, one place more at a time.
use Rattle.std.proofs.Common.{◌≡◌, ℕ, ◌+◌, ◌<◌, List, [], ◌∷◌, ◌++◌, length, arith, refl, ◌∙◌, subst, inl, inr, length-append}
use Rattle.std.specs.Prelude.{slice_index}
use Rattle.std.proofs.Math.ListN.{get_or-append}
use Rattle.std.proofs.lemmas.Bool.{cases_lt}
use Rattle.std.proofs.lemmas.List.{get_or_push}

-- the places are those below i that have the property, ascending
pub record FoundBelow (P : ℕ → Type 0) (i : ℕ) (places : List ℕ) : Type 0 where
  pub ascending : (k m : ℕ) → k < m → m < length places → slice_index places k < slice_index places m
  pub sound : (k : ℕ) → k < length places → P (slice_index places k)
  pub below : (k : ℕ) → k < length places → slice_index places k < i
  pub whole : (j : ℕ) → j < i → P j → (k : ℕ) × (k < length places) × (slice_index places k ≡ j)

-- below 0 there is no place to find
pub found_none : (P : ℕ → Type 0) → FoundBelow P 0 []
found_none P = record {
  ascending = λ k m less lt. absurd (omega arith);
  sound = λ k lt. absurd (omega arith);
  below = λ k lt. absurd (omega arith);
  whole = λ j lt is. absurd (omega arith);
}

-- a place that lacks the property leaves the places found as they are
pub found_skip : (P : ℕ → Type 0) (i : ℕ) (places : List ℕ) → FoundBelow P i places → ¬ (P i) → FoundBelow P (i + 1) places
found_skip P i places so_far fails = record {
  ascending = so_far.ascending;
  sound = so_far.sound;
  below = λ k lt. (let b = so_far.below k lt in omega arith);
  whole = λ j lt is. elim (cases_lt j i) [
    | inl less ↦ so_far.whole j less is
    | inr more ↦ (let same : j ≡ i = omega arith in absurd (fails (subst P same is)))
  ];
}

-- a place that has the property comes behind the places found
pub found_more : (P : ℕ → Type 0) (i : ℕ) (places : List ℕ) → FoundBelow P i places → P i → FoundBelow P (i + 1) (places ++ i ∷ [])
found_more P i places so_far here =
    let n : length (places ++ i ∷ []) ≡ length places + 1 = length-append places (i ∷ []) in
    let old : (k : ℕ) → k < length places → slice_index (places ++ i ∷ []) k ≡ slice_index places k = λ k lt. get_or-append places (i ∷ []) 0 k lt in
    let last : (k : ℕ) → length places ≡ k → slice_index (places ++ i ∷ []) k ≡ i = λ k e. get_or_push places i 0 k e in
    record {
      ascending = λ k m less lt. elim (cases_lt m (length places)) [
        | inl inside ↦ rw (old k (omega arith), old m inside) (so_far.ascending k m less inside)
        | inr more ↦ rw (old k (omega arith), last m (omega arith)) (so_far.below k (omega arith))
      ];
      sound = λ k lt. elim (cases_lt k (length places)) [
        | inl inside ↦ rw (old k inside) (so_far.sound k inside)
        | inr more ↦ rw (last k (omega arith)) here
      ];
      below = λ k lt. elim (cases_lt k (length places)) [
        | inl inside ↦ (let b = so_far.below k inside in rw (old k inside) (omega arith))
        | inr more ↦ rw (last k (omega arith)) (omega arith)
      ];
      whole = λ j lt is. elim (cases_lt j i) [
        | inl less ↦ (let w = so_far.whole j less is in let lt' = w.1 in (w.0, omega arith, old w.0 lt' ∙ w.2))
        | inr more ↦ (length places, omega arith, last (length places) refl ∙ omega arith)
      ];
    }
