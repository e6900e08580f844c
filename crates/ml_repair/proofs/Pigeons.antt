-- Different numbers that are all among others are not more than those.
use Rattle.std.proofs.Common.{◌≡◌, ◌≢◌, ℕ, zero, suc, ◌+◌, ◌<◌, ◌≤◌, List, [], ◌∷◌, ◌++◌, length, get_or, Contains, inl, inr, refl, sym, ap, ◌∙◌, subst, arith, length-append}
use Rattle.std.specs.Prelude.{remove, All}
use Rattle.std.proofs.lemmas.Bool.{cases_lt}
use Rattle.std.proofs.lemmas.List.Edits.{length-remove}
use Rattle.std.proofs.lemmas.List.Elements.{Contains-append_left, Contains-push}
use Rattle.ml_store.specs.Rows.{AreDifferent}
use Rattle.ml_ratio.proofs.lemmas.Lists.{remove_only}

different_tail : (x : ℕ) (xs : List ℕ) → AreDifferent (x ∷ xs) → AreDifferent xs
different_tail x xs differ i j d less lt = differ (suc i) (suc j) d (omega arith) (omega arith)

head_apart : (x y : ℕ) (xs : List ℕ) → AreDifferent (x ∷ xs) → Contains xs y → x ≢ y
head_apart x y xs differ there e = differ 0 (suc there.0) y (omega arith) (let h : there.0 < length xs = there.1 in omega arith) (e ∙ sym there.2)

-- different numbers that all are in another list are at most as many as that list has
pub no_more : (xs ys : List ℕ) → AreDifferent xs → ((x : ℕ) → Contains xs x → Contains ys x) → length xs ≤ length ys
no_more [] ys differ all = omega arith
no_more (x ∷ xs) ys differ all =
    let at = all x (0, omega arith, refl) in
    let lt : at.0 < length ys = at.1 in
    let n = length-remove ys at.0 lt in
    let rest = no_more xs (remove ys at.0) (different_tail x xs differ)
    (λ y there. elim (remove_only ys at.0 x y lt (sym at.2) (all y (suc there.0, (let h : there.0 < length xs = there.1 in omega arith), there.2))) [
      | inl same ↦ absurd (head_apart x y xs differ there same)
      | inr left ↦ left
    ]) in
    omega arith

-- the numbers below n
upto : ℕ → List ℕ
upto zero = []
upto (suc n) = upto n ++ n ∷ []

length-upto : (n : ℕ) → length (upto n) ≡ n
unfolding upto
length-upto zero = refl
length-upto (suc n) = length-append (upto n) (n ∷ []) ∙ ap (λ m. m + 1) (length-upto n) ∙ omega arith

upto_has : (n k : ℕ) → k < n → Contains (upto n) k
unfolding upto
upto_has zero k lt = absurd (omega arith)
upto_has (suc n) k lt =
    elim (cases_lt k n) [
      | inl less ↦ Contains-append_left (upto n) (n ∷ []) k (upto_has n k less)
      | inr more ↦ let e : n ≡ k = omega arith in subst (Contains (upto n ++ n ∷ [])) e (Contains-push (upto n) n)
    ]

-- different numbers below n are at most n
pub at_most : (n : ℕ) (xs : List ℕ) → AreDifferent xs → All (λ x. x < n) xs → length xs ≤ n
at_most n xs differ low =
    let few = no_more xs (upto n) differ (λ x there. upto_has n x (let h = low there.0 x there.1 in let e : get_or xs there.0 x ≡ x = there.2 in omega arith)) in
    let m = length-upto n in
    omega arith

-- two lists of the same different numbers are equally long
pub as_many : (xs ys : List ℕ) → AreDifferent xs → AreDifferent ys → ((x : ℕ) → Contains xs x → Contains ys x) → ((x : ℕ) → Contains ys x → Contains xs x) → length xs ≡ length ys
as_many xs ys a b to from =
    let p = no_more xs ys a to in
    let q = no_more ys xs b from in
    omega arith
