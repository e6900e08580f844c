-- Ascending lists with the same elements are the same.
use Rattle.std.proofs.Common.{◌≡◌, ℕ, zero, suc, ◌<◌, List, [], ◌∷◌, length, get_or, Contains, ◌⊎◌, inl, inr, refl, sym, ap, subst, ◌∙◌, arith}

module _ {X : Type 0} where
  -- the first element is in the list
  pub here : (x : X) (xs : List X) → Contains (x ∷ xs) x
  here x xs = (0, omega arith, refl)

  -- what is in the rest of a list is in the list
  pub later : (x y : X) (xs : List X) → Contains xs y → Contains (x ∷ xs) y
  later x y xs there = (suc there.0, omega arith, there.2)

  -- nothing is in the empty list
  pub none_in_none : {x : X} → Contains [] x → ⊥
  none_in_none there = let lt = there.1 in omega arith

  at_cases : (x y : X) (xs : List X) (k : ℕ) → k < length (x ∷ xs) → get_or (x ∷ xs) k y ≡ y → (x ≡ y) ⊎ Contains xs y
  at_cases x y xs zero lt is = inl is
  at_cases x y xs (suc k) lt is = inr (k, omega arith, is)

  -- an element of a list is the first one or is in the rest
  pub cases : (x y : X) (xs : List X) → Contains (x ∷ xs) y → (x ≡ y) ⊎ Contains xs y
  cases x y xs there = at_cases x y xs there.0 there.1 there.2

-- lists that ascend by a relation that holds in one direction at most
module _ {X : Type 0} (less : X → X → Type 0) (clash : (a b : X) → less a b → less b a → ⊥) where
  -- each element is less than all that stand behind it
  abbrev pub Ascends : List X → Type 0
  Ascends xs = (j i : ℕ) (d : X) → j < i → i < length xs → less (get_or xs j d) (get_or xs i d)

  rest_ascends : (x : X) (xs : List X) → Ascends (x ∷ xs) → Ascends xs
  rest_ascends x xs up j i d lt within = up (suc j) (suc i) d (omega (arith, lt)) (omega (arith, within))

  first_less : (x y : X) (xs : List X) → Ascends (x ∷ xs) → Contains xs y → less x y
  first_less x y xs up there = subst (λ z. less x z) there.2 (up 0 (suc there.0) y (omega arith) (omega (arith, there.1)))

  abbrev Within : List X → List X → Type 0
  Within xs ys = (x : X) → Contains xs x → Contains ys x

  -- the first elements
  firsts : (x y : X) (xs ys : List X) → Ascends (x ∷ xs) → Ascends (y ∷ ys) → Within (x ∷ xs) (y ∷ ys) → Within (y ∷ ys) (x ∷ xs) → x ≡ y
  firsts x y xs ys up_x up_y there back = elim (cases y x ys (there x (here x xs))) [
    | inl same ↦ sym same
    | inr in_y ↦ elim (cases x y xs (back y (here y ys))) [
      | inl same ↦ same
      | inr in_x ↦ absurd (clash x y (first_less x y xs up_x in_x) (first_less y x ys up_y in_y))
    ]
  ]

  -- what is in the rest of the one is in the rest of the other
  rests : (x y : X) (xs ys : List X) → x ≡ y → Ascends (x ∷ xs) → Within (x ∷ xs) (y ∷ ys) → Within xs ys
  rests x y xs ys same up there z in_xs = elim (cases y z ys (there z (later x z xs in_xs))) [
    | inl is ↦
        let less_z : less x z = first_less x z xs up in_xs in
        let x_is : x ≡ z = same ∙ is in
        absurd (clash x z less_z (subst (λ w. less w x) x_is (subst (λ w. less x w) (sym x_is) less_z)))
    | inr others ↦ others
  ]

  -- two such lists, each with the elements of the other, are the same
  pub one_list : (xs ys : List X) → Ascends xs → Ascends ys → Within xs ys → Within ys xs → xs ≡ ys
  one_list [] [] up_x up_y there back = refl
  one_list [] (y ∷ ys) up_x up_y there back = absurd (none_in_none (back y (here y ys)))
  one_list (x ∷ xs) [] up_x up_y there back = absurd (none_in_none (there x (here x xs)))
  one_list (x ∷ xs) (y ∷ ys) up_x up_y there back =
      let first : x ≡ y = firsts x y xs ys up_x up_y there back in
      let rest : xs ≡ ys = one_list xs ys (rest_ascends x xs up_x) (rest_ascends y ys up_y) (rests x y xs ys first up_x there) (rests y x ys xs (sym first) up_y back) in
      ap (λ z. z ∷ xs) first ∙ ap (λ zs. y ∷ zs) rest
