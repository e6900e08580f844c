-- What a binary search for a number finds in a list whose keys ascend.
use Rattle.std.proofs.Common.{◌≡◌, ℕ, zero, suc, ◌<◌, List, [], ◌∷◌, length, get_or, map, Some, None, true, false, refl, arith, eqb, find}
use Rattle.std.proofs.lemmas.Bool.Decides.{nat_tests}
use Rattle.std.specs.Ordering.{nat_cmp}
use Rattle.std.specs.List.{AllByRecursion}
use Rattle.std.specs.List.Sorted.{IsStrictlySortedBy}
use Rattle.std.specs.declared.cmp.Ordering.TheVariants.{Less}

module _ {X : Type 0} (key : X → ℕ) where
  below_later : (xs : List X) (a : ℕ) (i : ℕ) (d : X) → AllByRecursion (λ y. nat_cmp a y ≡ Less) (map key xs) → i < length xs → nat_cmp a (key (get_or xs i d)) ≡ Less
  below_later [] a i d h l = absurd (omega arith)
  below_later (x ∷ xs) a zero d h l = h.0
  below_later (x ∷ xs) a (suc i) d h l = below_later xs a i d h.1 (omega arith)

  -- the element with the key is the first with it
  pub found : (xs : List X) (i k : ℕ) (d : X) → IsStrictlySortedBy nat_cmp (map key xs) → i < length xs → key (get_or xs i d) ≡ k → find (λ x. eqb (key x) k) xs ≡ Some (get_or xs i d)
  unfolding IsStrictlySortedBy
  found [] i k d h l e = absurd (omega arith)
  found (x ∷ xs) zero k d h l e = let t : eqb (key x) k ≡ true = grind (arith, nat_tests) in rw t refl
  found (x ∷ xs) (suc i) k d h l e =
      let below : nat_cmp (key x) (key (get_or xs i d)) ≡ Less = below_later xs (key x) i d h.0 (omega arith) in
      let t : eqb (key x) k ≡ false = grind (arith, nat_tests) in
      rw t (found xs i k d h.1 (omega arith) e)

  -- where no element has the key, none is found
  pub found_none : (xs : List X) (k : ℕ) → ((i : ℕ) (d : X) → i < length xs → eqb (key (get_or xs i d)) k ≡ false) → find (λ x. eqb (key x) k) xs ≡ None
  found_none [] k h = refl
  found_none (x ∷ xs) k h = rw (h 0 x (omega arith)) (found_none xs k (λ i d l. h (suc i) d (omega arith)))

  -- of two places the later has the greater key
  pub sorted_below : (xs : List X) (i j : ℕ) (d : X) → IsStrictlySortedBy nat_cmp (map key xs) → i < j → j < length xs → key (get_or xs i d) < key (get_or xs j d)
  unfolding IsStrictlySortedBy
  sorted_below [] i j d s h l = absurd (omega arith)
  sorted_below (x ∷ xs) zero zero d s h l = absurd (omega arith)
  sorted_below (x ∷ xs) zero (suc j) d s h l =
      let below : nat_cmp (key x) (key (get_or xs j d)) ≡ Less = below_later xs (key x) j d s.0 (omega arith) in
      grind (arith, nat_tests)
  sorted_below (x ∷ xs) (suc i) zero d s h l = absurd (omega arith)
  sorted_below (x ∷ xs) (suc i) (suc j) d s h l = sorted_below xs i j d s.1 (omega arith) (omega arith)
