-- The places of shown labels, one label more at a time.
use Rattle.std.proofs.Common.{◌≡◌, ℕ, ◌+◌, ◌<◌, List, [], ◌∷◌, ◌++◌, length, get_or, arith, refl, ◌∙◌, subst, inl, inr, length-append}
use Rattle.std.specs.Prelude.{slice_index}
use Rattle.std.proofs.Math.ListN.{get_or-append}
use Rattle.std.proofs.lemmas.Bool.{cases_lt}
use Rattle.std.proofs.lemmas.List.{get_or_default, get_or_push}
use Rattle.ml_cone.specs.Choice.{Choice}
use Rattle.ml_cone.specs.Shown.{IsShownUntil, IsShown, AreShown}
use Rattle.ml_cone.specs.declared.label.Label.{Label}
use Rattle.ml_cone.specs.declared.view.View.{View}

-- the places are those of the shown labels below i, ascending
pub record ShownBelow (labels : List Label) (c : Choice) (v : View) (i : ℕ) (places : List ℕ) : Type 0 where
  pub ascending : (k m : ℕ) → k < m → m < length places → slice_index places k < slice_index places m
  pub sound : (k : ℕ) → k < length places → IsShown labels c v (slice_index places k)
  pub below : (k : ℕ) → k < length places → slice_index places k < i
  pub whole : (j : ℕ) → j < i → IsShown labels c v j → (k : ℕ) × (k < length places) × (slice_index places k ≡ j)

-- before the first label no place is listed
pub shown_none : (labels : List Label) (c : Choice) (v : View) → ShownBelow labels c v 0 []
shown_none labels c v = record {
  ascending = λ k m less lt. absurd (omega arith);
  sound = λ k lt. absurd (omega arith);
  below = λ k lt. absurd (omega arith);
  whole = λ j lt is. absurd (omega arith);
}

-- one more label, which is not shown: the places stay as they are
pub shown_skip : (labels : List Label) (c : Choice) (v : View) (i : ℕ) (places : List ℕ) → ShownBelow labels c v i places → ¬ (IsShown labels c v i) → ShownBelow labels c v (i + 1) places
shown_skip labels c v i places so_far not = record {
  ascending = so_far.ascending;
  sound = so_far.sound;
  below = λ k lt. (let b = so_far.below k lt in omega arith);
  whole = λ j lt is. elim (cases_lt j i) [
    | inl less ↦ so_far.whole j less is
    | inr more ↦ (let same : j ≡ i = omega arith in absurd (not (rw same at is)))
  ];
}

-- one more label, which is shown: its place comes last
pub shown_more : (labels : List Label) (c : Choice) (v : View) (i : ℕ) (places : List ℕ) → ShownBelow labels c v i places → IsShown labels c v i → ShownBelow labels c v (i + 1) (places ++ i ∷ [])
shown_more labels c v i places so_far here =
    let n : length (places ++ i ∷ []) ≡ length places + 1 = length-append places (i ∷ []) in
    let old : (k : ℕ) → k < length places → slice_index (places ++ i ∷ []) k ≡ slice_index places k = λ k lt. get_or-append places (i ∷ []) 0 k lt in
    let last : (k : ℕ) → length places ≡ k → slice_index (places ++ i ∷ []) k ≡ i = λ k e. get_or_push places i 0 k e in
    record {
      ascending = λ k m less lt. elim (cases_lt m (length places)) [
        | inl inside ↦ rw (old k (omega arith), old m inside) (so_far.ascending k m less inside)
        | inr more ↦ rw (old k (omega arith), last m (omega arith)) (so_far.below k (omega arith))
      ];
      sound = λ k lt. elim (cases_lt k (length places)) [
        | inl inside ↦ rw (old k inside) (so_far.sound k inside)
        | inr more ↦ rw (last k (omega arith)) here
      ];
      below = λ k lt. elim (cases_lt k (length places)) [
        | inl inside ↦ (let b = so_far.below k inside in rw (old k inside) (omega arith))
        | inr more ↦ rw (last k (omega arith)) (omega arith)
      ];
      whole = λ j lt is. elim (cases_lt j i) [
        | inl less ↦ (let w = so_far.whole j less is in let lt = w.1 in (w.0, omega arith, old w.0 lt ∙ w.2))
        | inr more ↦ (length places, omega arith, last (length places) refl ∙ omega arith)
      ];
    }

-- once all labels are gone through, the places are those of all shown labels
pub shown_all : (labels : List Label) (c : Choice) (v : View) (i : ℕ) (places : List ℕ) → i ≡ length labels → ShownBelow labels c v i places → AreShown labels c v places
shown_all labels c v i places e so_far = record {
  ascending = so_far.ascending;
  sound = so_far.sound;
  whole = λ j is. so_far.whole j (omega (arith, is.0)) is;
}

-- the label at i is shown exactly where it is active and in view
pub shown_here : (labels : List Label) (c : Choice) (v : View) (i : ℕ) (d : Label) → i < length labels → IsShownUntil (get_or labels i d) v c i → IsShown labels c v i
shown_here labels c v i d lt is = (lt, λ e. subst (λ (l : Label). IsShownUntil l v c i) (get_or_default labels i d e lt) is)
