-- Elements sorted by keys of bytes, of which no two are the same.
use Rattle.std.proofs.Common.{◌≡◌, ◌≢◌, ℕ, ◌<◌, List, [], ◌∷◌, length, get_or, map, false, refl, sym, ◌∙◌, ap, arith, rules}
use Rattle.std.specs.Prelude.{nat_eq, AllPairs}
use Rattle.std.specs.Bool.{Decides}
use Rattle.std.specs.Cmp.{unsigned_Decides}
use Rattle.std.specs.Cmp.Rules.{comparing}
use Rattle.std.specs.Cmp.Lexicographic.{slice_cmp, pointwise}
use Rattle.std.specs.Fn.{Called}
use Rattle.std.specs.List.Sorted.{IsPermutation, IsSortedByClosure}
use Rattle.std.specs.Ordering.{nat_cmp, is_eq, is_lt, eq_by_cmp, ordering_reverse}
use Rattle.std.specs.declared.cmp.Ordering.{Ordering}
use Rattle.std.specs.declared.cmp.Ordering.TheVariants.{Less, Equal, Greater}
use Rattle.std.proofs.lemmas.Cmp.{nat_list_cmp_total, nat_list_eq_equiv}
use Rattle.std.proofs.lemmas.List.{get_or-map, length-map}
use Rattle.std.proofs.lemmas.List.MinMax.{ranks_by}
use Rattle.std.proofs.lemmas.List.Sorted.{IsPermutation-map, answers_always, sorted_far}
use Rattle.std.proofs.lemmas.Map.Keys.{IsDistinct-IsPermutation}
use Rattle.std.proofs.lemmas.Map.Made.{AllPairs-from_IsDistinct, IsDistinct-from_AllPairs}
use Rattle.std.proofs.lemmas.Slice.Eq.{slice_eq-Decides}
use denote.Param.Members.{Mut}
use denote.Ref.{Bor}

-- `==` of two keys says whether they are the same
pub keys_decide : (one other : List ℕ) → Decides (pointwise nat_eq one other) (one ≡ other)
keys_decide one other = slice_eq-Decides unsigned_Decides one other (pointwise nat_eq one other) refl

-- keys that tie are the same
tie_test : (one other : List ℕ) → pointwise nat_eq one other ≡ eq_by_cmp (slice_cmp nat_cmp) one other
tie_test one other = search (comparing, rules)

-- keys that stand at one place in the order of bytes are the same
pub tied_keys : (one other : List ℕ) → slice_cmp nat_cmp one other ≡ Equal → one ≡ other
tied_keys one other tie = (keys_decide one other).0 (tie_test one other ∙ ap is_eq tie)

-- what neither ties nor stands the other way round is less
pub turned_less : (turned : Ordering) → is_lt turned ≡ false → ((ordering_reverse turned ≡ Equal) → ⊥) → ordering_reverse turned ≡ Less
turned_less Less above untied = absurd cc
turned_less Equal above untied = absurd (untied refl)
turned_less Greater above untied = refl

module _ {X : Type 0} (key : X → List ℕ) where
  keys_differ : (xs : List X) → AllPairs (λ x y. key x ≢ key y) xs → AllPairs (λ k l. k ≢ l) (map key xs)
  keys_differ [] h i j d below within same = absurd (omega arith)
  keys_differ (x ∷ xs) h i j d below within same =
      let long = length-map (x ∷ xs) key in
      let far : j < length (x ∷ xs) = omega arith in
      let near : i < length (x ∷ xs) = omega arith in
      h i j x below far (sym (get_or-map key (x ∷ xs) i x d near) ∙ same ∙ get_or-map key (x ∷ xs) j x d far)

  elements_differ : (xs : List X) → AllPairs (λ k l. k ≢ l) (map key xs) → AllPairs (λ x y. key x ≢ key y) xs
  elements_differ xs h i j d below within same =
      let long = length-map xs key in
      let far : j < length (map key xs) = omega arith in
      let near : i < length xs = omega arith in
      h i j (key d) below far (get_or-map key xs i d (key d) near ∙ same ∙ sym (get_or-map key xs j d (key d) within))

  -- elements whose keys differ keep them apart when they change places
  pub still_differ : (xs ys : List X) → IsPermutation xs ys → AllPairs (λ x y. key x ≢ key y) xs → AllPairs (λ x y. key x ≢ key y) ys
  still_differ xs ys moved h =
      elements_differ ys (AllPairs-from_IsDistinct keys_decide (map key ys) (IsDistinct-IsPermutation (pointwise nat_eq) nat_list_eq_equiv.symm
      (map key xs) (map key ys) (IsPermutation-map key xs ys moved) (IsDistinct-from_AllPairs keys_decide (map key xs) (keys_differ xs h))))

  -- once they are sorted by their keys, each stands before all later ones
  pub sorted_by_key : {F : Type 0} {g : Mut F (Bor X × (Bor X × Unit {0})) Ordering} {f : F} (xs ys : List X) →
      AllPairs (λ x y. key x ≢ key y) xs → IsPermutation xs ys → IsSortedByClosure g f ys →
      ((f : F) (a : Bor X × (Bor X × Unit {0})) (r : Ordering) (f' : F) → Called g f a r f' → r ≡ slice_cmp nat_cmp (key a.0.now) (key a.1.0.now)) →
      AllPairs (λ x y. slice_cmp nat_cmp (key x) (key y) ≡ Less) ys
  sorted_by_key {g = g} {f = f} xs ys differ moved up calls i j d below within =
      let one = key (get_or ys i d) in
      let other = key (get_or ys j d) in
      let turn = nat_list_cmp_total.antisymm one other in
      let apart = still_differ xs ys moved differ i j d below within in
      let sorted = up (λ x y. is_lt (slice_cmp nat_cmp (key x) (key y))) (ranks_by nat_list_cmp_total key)
      (answers_always g (λ a r. is_lt r ≡ is_lt (slice_cmp nat_cmp (key a.0.now) (key a.1.0.now))) f (λ f a r f' call. ap is_lt (calls f a r f' call))) in
      let above = sorted_far _ (ranks_by nat_list_cmp_total key) ys sorted i j d (omega arith) within in
      turn ∙ turned_less (slice_cmp nat_cmp other one) above (λ tie. apart (tied_keys one other (turn ∙ tie)))
