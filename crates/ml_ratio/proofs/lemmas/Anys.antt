-- Some element of a list: at its place, and in a list with others before it or behind it, with one more, or in another order.
use Rattle.std.proofs.Common.{ℕ, zero, suc, ◌+◌, ◌-◌, ◌<◌, ◌≤◌, List, [], ◌∷◌, ◌++◌, length, get_or, take, arith, refl, sym, ◌∙◌, subst, ◌⊎◌, inl, inr, length-append}
use Rattle.std.specs.Prelude.{Any, IsPermutation}
use Rattle.std.proofs.Math.ListN.{get_or-append}
use Rattle.std.proofs.lemmas.Bool.{cases_lt}
use Rattle.std.proofs.lemmas.List.{get_or_default, get_or-append_right, get_or-append-add, take_more, take_all}
use Rattle.std.proofs.lemmas.List.Sorted.{Contains-permutation}

-- at the place of the element, under any default
pub any_at : {X : Type 0} (P : X → Type 0) (xs : List X) (d : X) → Any P xs → (k : ℕ) × (k < length xs) × P (get_or xs k d)
any_at P xs d (k, x, lt, e, p) = (k, lt, subst P (sym (get_or_default xs k d x lt ∙ e)) p)

-- where the element at a place has the property, some element has it
pub any_of : {X : Type 0} (P : X → Type 0) (xs : List X) (k : ℕ) (d : X) → k < length xs → P (get_or xs k d) → Any P xs
any_of P xs k d lt p = (k, get_or xs k d, lt, get_or_default xs k (get_or xs k d) d lt, p)

-- no element of an empty list has the property
pub any_none : {X : Type 0} (P : X → Type 0) → ¬ (Any P [])
any_none P (k, x, lt, e, p) = omega arith

-- the first element, or one of the others
pub any_here : {X : Type 0} (P : X → Type 0) (x : X) (xs : List X) → P x → Any P (x ∷ xs)
any_here P x xs p = (0, x, omega arith, refl, p)

-- where some element behind the first has the property, some element of all has it
pub any_there : {X : Type 0} (P : X → Type 0) (x : X) (xs : List X) → Any P xs → Any P (x ∷ xs)
any_there P x xs (k, y, lt, e, p) = (suc k, y, omega arith, e, p)

-- where some element has the property, the first one has it or some element behind it
pub any_cases : {X : Type 0} (P : X → Type 0) (x : X) (xs : List X) → Any P (x ∷ xs) → P x ⊎ Any P xs
any_cases P x xs (zero, y, lt, e, p) = inl (rw e p)
any_cases P x xs (suc k, y, lt, e, p) = inr (k, y, omega arith, e, p)

-- where some element of a list of one has the property, that one has it
pub any_one : {X : Type 0} (P : X → Type 0) (x : X) → Any P (x ∷ []) → P x
any_one P x any =
    elim (any_cases P x [] any) [
      | inl here ↦ here
      | inr none ↦ absurd (any_none P none)
    ]

-- two lists, one after the other
pub any_left : {X : Type 0} (P : X → Type 0) (xs ys : List X) → Any P xs → Any P (xs ++ ys)
any_left P xs ys (k, x, lt, e, p) = (k, x, omega (arith, length-append xs ys), get_or-append xs ys x k lt ∙ e, p)

-- where some element of the second list has the property, some element of the two lists in a row has it
pub any_right : {X : Type 0} (P : X → Type 0) (xs ys : List X) → Any P ys → Any P (xs ++ ys)
any_right P xs ys (k, x, lt, e, p) = (length xs + k, x, omega (arith, length-append xs ys), get_or-append-add xs ys k x ∙ e, p)

-- where some element of two lists in a row has the property, some element of the first list has it or some of the second
pub any_either : {X : Type 0} (P : X → Type 0) (xs ys : List X) → Any P (xs ++ ys) → Any P xs ⊎ Any P ys
any_either P xs ys (k, x, lt, e, p) =
    elim (cases_lt k (length xs)) [
      | inl inside ↦ inl (k, x, inside, sym (get_or-append xs ys x k inside) ∙ e, p)
      | inr more ↦ inr (k - length xs, x, omega (arith, length-append xs ys), sym (get_or-append_right xs ys (length xs) k x refl more) ∙ e, p)
    ]

-- one element more at the end
pub any_push_cases : {X : Type 0} (P : X → Type 0) (xs : List X) (y : X) → Any P (xs ++ y ∷ []) → Any P xs ⊎ P y
any_push_cases P xs y any =
    elim (any_either P xs (y ∷ []) any) [
      | inl before ↦ inl before
      | inr last ↦ inr (any_one P y last)
    ]

-- one element more of a list
pub any_more_cases : {X : Type 0} (P : X → Type 0) (xs : List X) (i : ℕ) (d : X) → i < length xs → Any P (take (i + 1) xs) → Any P (take i xs) ⊎ P (get_or xs i d)
any_more_cases {X} P xs i d lt any = any_push_cases P (take i xs) (get_or xs i d) (subst (λ (ys : List X). Any P ys) (take_more xs i d lt) any)

-- where one of the first i elements has the property, one of the first i + 1 has it
pub any_more_left : {X : Type 0} (P : X → Type 0) (xs : List X) (i : ℕ) (d : X) → i < length xs → Any P (take i xs) → Any P (take (i + 1) xs)
any_more_left {X} P xs i d lt any = subst (λ (ys : List X). Any P ys) (sym (take_more xs i d lt)) (any_left P (take i xs) (get_or xs i d ∷ []) any)

-- where the element at place i has the property, one of the first i + 1 elements has it
pub any_more_here : {X : Type 0} (P : X → Type 0) (xs : List X) (i : ℕ) (d : X) → i < length xs → P (get_or xs i d) → Any P (take (i + 1) xs)
any_more_here {X} P xs i d lt p = subst (λ (ys : List X). Any P ys) (sym (take_more xs i d lt)) (any_right P (take i xs) (get_or xs i d ∷ []) (any_here P (get_or xs i d) [] p))

-- the whole list
pub any_whole : {X : Type 0} (P : X → Type 0) (xs : List X) (i : ℕ) → length xs ≤ i → Any P xs → Any P (take i xs)
any_whole {X} P xs i h any = subst (λ (ys : List X). Any P ys) (sym (take_all i xs h)) any

-- where one of the first elements has the property, and the list has no more than these, some element of the list has it
pub any_of_whole : {X : Type 0} (P : X → Type 0) (xs : List X) (i : ℕ) → length xs ≤ i → Any P (take i xs) → Any P xs
any_of_whole {X} P xs i h any = subst (λ (ys : List X). Any P ys) (take_all i xs h) any

-- the same elements in another order
pub any_permutation : {X : Type 0} (P : X → Type 0) (xs ys : List X) → IsPermutation xs ys → Any P xs → Any P ys
any_permutation P xs ys same (k, x, lt, e, p) =
    let found = Contains-permutation xs ys x same (k, lt, e) in
    (found.0, x, found.1, found.2, p)
