-- The ids that a state has so far, as an ordered set.
use Rattle.std.proofs.Common.{◌≡◌, ◌≢◌, ℕ, List, [], ◌∷◌, ◌++◌, Bool, true, false, cond, inl, inr, refl, sym, ap, ◌∙◌}
use Rattle.std.specs.Prelude.{MatchBool}
use Rattle.std.specs.BTreeSet.{BTreeSet, contains_by, Updates}
use Rattle.std.specs.Cmp.Lexicographic.{slice_cmp}
use Rattle.std.specs.Ordering.{nat_cmp}
use Rattle.std.specs.Str.{bytes_eq}
use Rattle.std.proofs.lemmas.Cmp.{nat_list_eq_equiv}
use Rattle.std.proofs.lemmas.Map.Text.{is_eq-slice_cmp}
use Rattle.std.proofs.lemmas.Slice.Eq.{bytes_eq-Decides}
use Rattle.ml_cone.specs.Places.{IsPlaceOf, IsNoId}
use Rattle.ml_cone.specs.declared.label.Label.{Label}
use Rattle.ml_follow.specs.Reading.{HasIds}
use Rattle.ml_follow.proofs.Changing.{has_front, has_last, has_cases}

-- an id that the set has is that of a label that has come
pub known_id : (labels : List Label) (taken : BTreeSet (List ℕ)) (id : List ℕ) (b : Bool) → HasIds labels taken →
    b ≡ contains_by (slice_cmp nat_cmp id) taken → b ≡ true → (j : ℕ) × IsPlaceOf labels id j
known_id labels taken id b has e t = let h = has id in rw (sym e ∙ t) at h

-- an id that the set lacks is that of no label so far
pub new_id : (labels : List Label) (taken : BTreeSet (List ℕ)) (id : List ℕ) (b : Bool) → HasIds labels taken → b ≡ contains_by (slice_cmp nat_cmp id) taken → b ≡ false → IsNoId labels id
new_id labels taken id b has e t = let h = has id in rw (sym e ∙ t) at h

module _ (labels : List Label) (label : Label) where
  still_new : (id : List ℕ) → IsNoId labels id → id ≢ label.order.id → IsNoId (labels ++ label ∷ []) id
  still_new id none other j place = elim (has_cases labels label id (j, place)) [
    | inl known ↦ none known.0 known.1
    | inr same ↦ other same
  ]

  by_old : (t : Bool) (id : List ℕ) → id ≢ label.order.id → MatchBool t ((j : ℕ) × IsPlaceOf labels id j) (IsNoId labels id) →
      MatchBool t ((j : ℕ) × IsPlaceOf (labels ++ label ∷ []) id j) (IsNoId (labels ++ label ∷ []) id)
  by_old true id other h = has_front labels label id h
  by_old false id other h = still_new id h other

  -- with the id of the next label put in, the set has the ids of all labels up to that one
  pub ids_more : (old new : BTreeSet (List ℕ)) → HasIds labels old → Updates (slice_cmp nat_cmp) old new label.order.id true → HasIds (labels ++ label ∷ []) new
  ids_more old new has updates id =
      let e : contains_by (slice_cmp nat_cmp id) new ≡ cond (bytes_eq id label.order.id) true (contains_by (slice_cmp nat_cmp id) old) =
      updates.0 id ∙ ap (λ (t : Bool). cond t true (contains_by (slice_cmp nat_cmp id) old)) (is_eq-slice_cmp label.order.id id ∙ nat_list_eq_equiv.symm label.order.id id) in
      rw e (by_test (bytes_eq id label.order.id) refl)
    where
      by_test : (b : Bool) → bytes_eq id label.order.id ≡ b → MatchBool (cond (bytes_eq id label.order.id) true (contains_by (slice_cmp nat_cmp id) old))
          ((j : ℕ) × IsPlaceOf (labels ++ label ∷ []) id j) (IsNoId (labels ++ label ∷ []) id)
      by_test true e = rw e (has_last labels label id ((bytes_eq-Decides id label.order.id).0 e))
      by_test false e =
          let other : id ≢ label.order.id = λ same. (let yes : bytes_eq id label.order.id ≡ true = (bytes_eq-Decides id label.order.id).1 same in let no : true ≡ false = sym yes ∙ e in absurd (cc)) in
          rw e (by_old (contains_by (slice_cmp nat_cmp id) old) id other (has id))
