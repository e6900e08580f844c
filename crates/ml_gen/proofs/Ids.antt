-- Ids of features: the same only where group and letter are.
use Rattle.std.proofs.Common.{◌≡◌, ℕ, ◌<◌, List, [], ◌∷◌, ◌++◌, codes, refl, sym, ap, ◌∙◌, arith}
use Rattle.std.specs.Fmt.{decimal}
use Rattle.std.proofs.lemmas.Fmt.{decimal_injective}
use Rattle.std.proofs.lemmas.List.{append_cancel_left, append_cancel_right}
use Rattle.ml_gen.specs.Thing.{id_of}
use Rattle.ml_gen.specs.declared.group.Group.{Group}

-- the last element
abbrev last_or : ℕ → List ℕ → ℕ
last_or d [] = d
last_or d (x ∷ xs) = last_or x xs

last_snoc : (d : ℕ) (xs : List ℕ) (a : ℕ) → last_or d (xs ++ a ∷ []) ≡ a
last_snoc d [] a = refl
last_snoc d (x ∷ xs) a = last_snoc x xs a

tails : (g h : Group) (a b : ℕ) → id_of g (a ∷ []) ≡ id_of h (b ∷ []) → decimal g.number ++ a ∷ [] ≡ decimal h.number ++ b ∷ []
tails g h a b same = append_cancel_left (codes "g") (decimal g.number ++ a ∷ []) (decimal h.number ++ b ∷ []) same

-- where two groups' features have one id, it ends in one letter
pub same_letter : (g h : Group) (a b : ℕ) → id_of g (a ∷ []) ≡ id_of h (b ∷ []) → a ≡ b
same_letter g h a b same = sym (last_snoc 0 (decimal g.number) a) ∙ ap (last_or 0) (tails g h a b same) ∙ last_snoc 0 (decimal h.number) b

same_number : (m n : ℕ) → m < 6000 → n < 6000 → decimal m ≡ decimal n → m ≡ n
same_number m n low small same = decimal_injective m n (omega arith) (omega arith) same

-- and the two groups have one number, as their numbers are below 6000
pub same_group : (g h : Group) (a b : ℕ) → g.number < 6000 → h.number < 6000 → id_of g (a ∷ []) ≡ id_of h (b ∷ []) → g.number ≡ h.number
same_group g h a b low small same =
    let letters : b ∷ [] ≡ a ∷ [] = ap (λ (c : ℕ). c ∷ []) (sym (same_letter g h a b same)) in
    let ends : decimal g.number ++ a ∷ [] ≡ decimal h.number ++ a ∷ [] = tails g h a b same ∙ ap (λ (end : List ℕ). decimal h.number ++ end) letters in
    same_number g.number h.number low small (append_cancel_right (decimal g.number) (decimal h.number) (a ∷ []) ends)
