-- Lists without repeats and with the same elements are permutations of one another.
use Rattle.std.proofs.Common.{◌≡◌, ℕ, zero, suc, ◌<◌, List, [], ◌∷◌, ◌++◌, length, get_or, Contains, ◌⊎◌, inl, inr, refl, sym, ap, subst, arith}
use Rattle.std.specs.List.Sorted.{IsPermutation}
use Rattle.std.proofs.lemmas.List.Sorted.{IsPermutation-refl, IsPermutation-trans, IsPermutation-sym, IsPermutation-append, IsPermutation-middle}
use Rattle.std.proofs.lemmas.List.Elements.{Contains-append_left, Contains-append_right, Contains-append_cases}

module _ {X : Type 0} where
  -- no element stands twice in the list
  abbrev pub Apart : List X → Type 0
  Apart [] = Unit {0}
  Apart (x ∷ xs) = (¬ (Contains xs x)) × Apart xs

  -- the first element is in the list
  pub here : (x : X) (xs : List X) → Contains (x ∷ xs) x
  here x xs = (0, omega arith, refl)

  -- what is in the rest of a list is in the list
  pub later : (x y : X) (xs : List X) → Contains xs y → Contains (x ∷ xs) y
  later x y xs there = (suc there.0, omega arith, there.2)

  none_in_none : {x : X} → Contains [] x → ⊥
  none_in_none there = let lt = there.1 in omega arith

  at_cases : (x y : X) (xs : List X) (k : ℕ) → k < length (x ∷ xs) → get_or (x ∷ xs) k y ≡ y → (x ≡ y) ⊎ Contains xs y
  at_cases x y xs zero lt is = inl is
  at_cases x y xs (suc k) lt is = inr (k, omega arith, is)

  -- an element of a list is the first one or is in the rest
  pub cases : (x y : X) (xs : List X) → Contains (x ∷ xs) y → (x ≡ y) ⊎ Contains xs y
  cases x y xs there = at_cases x y xs there.0 there.1 there.2

  -- a list about one of its elements
  record Split (ys : List X) (x : X) : Type 0 where
    before : List X
    after : List X
    is : ys ≡ before ++ x ∷ after

  split_at : (ys : List X) (x : X) (k : ℕ) → k < length ys → get_or ys k x ≡ x → Split ys x
  split_at [] x k lt is = absurd (omega arith)
  split_at (y ∷ ys) x zero lt is = record { before = []; after = ys; is = ap (λ z. z ∷ ys) is }
  split_at (y ∷ ys) x (suc k) lt is =
      let s = split_at ys x k (omega arith) is in
      record { before = y ∷ s.before; after = s.after; is = ap (λ zs. y ∷ zs) s.is }

  -- without the element in the middle nothing stands twice, and it is gone
  rest_apart : (before after : List X) (x : X) → Apart (before ++ x ∷ after) → Apart (before ++ after) × ¬ (Contains (before ++ after) x)
  rest_apart [] after x apart = (apart.1, apart.0)
  rest_apart (y ∷ before) after x apart =
      let rest = rest_apart before after x apart.1 in (
        (
          (λ there. apart.0 (elim (Contains-append_cases before after y there) [
            | inl left ↦ Contains-append_left before (x ∷ after) y left
            | inr right ↦ Contains-append_right before (x ∷ after) y (later x y after right)
          ])),
          rest.0,
        ),
        (λ there. elim (cases y x (before ++ after) there) [
          | inl same ↦ apart.0 (Contains-append_right before (x ∷ after) y (subst (λ (z : X). Contains (x ∷ after) z) (sym same) (here x after)))
          | inr others ↦ rest.1 others
        ]),
      )

  -- the element in the middle may come first
  to_middle : (before after : List X) (x : X) → IsPermutation (x ∷ (before ++ after)) (before ++ x ∷ after)
  to_middle before after x = IsPermutation-sym (before ++ x ∷ after) (x ∷ (before ++ after)) (IsPermutation-middle before x after)

  -- of two lists without repeats, each with the elements of the other, one is a permutation of the other
  pub same_elements : (xs ys : List X) → Apart xs → Apart ys → ((x : X) → Contains xs x → Contains ys x) → ((x : X) → Contains ys x → Contains xs x) → IsPermutation xs ys
  same_elements [] [] a b forth back = IsPermutation-refl []
  same_elements [] (y ∷ ys) a b forth back = absurd (none_in_none (back y (here y ys)))
  same_elements (x ∷ xs) ys a b forth back =
      let there = forth x (here x xs) in
      let s = split_at ys x there.0 there.1 there.2 in
      let rest = rest_apart s.before s.after x (subst Apart s.is b) in
      let there_too : (z : X) → Contains xs z → Contains (s.before ++ s.after) z =
      λ z in_xs. elim (Contains-append_cases s.before (x ∷ s.after) z (subst (λ (l : List X). Contains l z) s.is (forth z (later x z xs in_xs)))) [
        | inl left ↦ Contains-append_left s.before s.after z left
        | inr right ↦ elim (cases x z s.after right) [
          | inl same ↦ absurd (a.0 (subst (λ (w : X). Contains xs w) (sym same) in_xs))
          | inr after ↦ Contains-append_right s.before s.after z after
        ]
      ] in
      let in_ys : (z : X) → Contains (s.before ++ s.after) z → Contains ys z =
      λ z in_rest. subst (λ (l : List X). Contains l z) (sym s.is) (elim (Contains-append_cases s.before s.after z in_rest) [
        | inl left ↦ Contains-append_left s.before (x ∷ s.after) z left
        | inr right ↦ Contains-append_right s.before (x ∷ s.after) z (later x z s.after right)
      ]) in
      let here_too : (z : X) → Contains (s.before ++ s.after) z → Contains xs z =
      λ z in_rest. elim (cases x z xs (back z (in_ys z in_rest))) [
        | inl same ↦ absurd (rest.1 (subst (λ (w : X). Contains (s.before ++ s.after) w) (sym same) in_rest))
        | inr in_xs ↦ in_xs
      ] in
      let others = same_elements xs (s.before ++ s.after) a.1 rest.0 there_too here_too in
      subst (λ (zs : List X). IsPermutation (x ∷ xs) zs) (sym s.is)
      (IsPermutation-trans (x ∷ xs) (x ∷ (s.before ++ s.after)) (s.before ++ x ∷ s.after)
      (IsPermutation-append (x ∷ []) (x ∷ []) xs (s.before ++ s.after) (IsPermutation-refl (x ∷ [])) others) (to_middle s.before s.after x))
