-- The stays of the boxes of a label, one box after another.
use Rattle.std.proofs.Common.{◌≡◌, ℕ, ◌+◌, ◌<◌, ◌↔◌, List, [], ◌∷◌, ◌++◌, length, get_or, take, subst, sym, inl, inr}
use Rattle.std.specs.Prelude.{Any}
use Rattle.std.proofs.lemmas.List.Quantifiers.{Any-push}
use Rattle.ml_ratio.specs.Fraction.{Fraction}
use Rattle.ml_flight.specs.Stay.{HoldsScale, HaveScale}
use Rattle.ml_flight.specs.declared.stay.Stay.{Stay}
use Rattle.ml_ratio.proofs.lemmas.Anys.{any_none, any_left, any_push_cases, any_more_cases, any_more_left, any_more_here}

module _ {X : Type 0} (P : X → Fraction → Type 0) (whole : Stay) (xs : List X) where
  -- the pieces hold what the whole stay holds and one of the first i elements has
  abbrev pub Pieces : ℕ → List Stay → Type 0
  Pieces i pieces = (s : Fraction) → HaveScale pieces s ↔ (HoldsScale whole s × Any (λ p. P p s) (take i xs))

  -- before the first box there are no pieces
  pub pieces_none : Pieces 0 []
  pieces_none s = (λ h. absurd (any_none (λ a. HoldsScale a s) h), λ h. absurd (any_none (λ p. P p s) h.1))

  -- the stay of the next box within the whole stay comes in as one more piece
  pub pieces_more : (ys : List X) (i : ℕ) (d : X) (pieces : List Stay) (piece : Stay) → ys ≡ xs → i < length ys → Pieces i pieces →
      ((s : Fraction) → HoldsScale piece s ↔ (HoldsScale whole s × P (get_or ys i d) s)) → Pieces (i + 1) (pieces ++ piece ∷ [])
  pieces_more ys i d pieces piece same lt so_far is s =
      let lt' : i < length xs = subst (λ (zs : List X). i < length zs) same lt in
      let here : HoldsScale piece s ↔ (HoldsScale whole s × P (get_or xs i d) s) = subst (λ (zs : List X). HoldsScale piece s ↔ (HoldsScale whole s × P (get_or zs i d) s)) same (is s) in (
        λ h. elim (any_push_cases (λ a. HoldsScale a s) pieces piece h) [
          | inl old ↦ let w = (so_far s).0 old in (w.0, any_more_left (λ p. P p s) xs i d lt' w.1)
          | inr new ↦ let w = here.0 new in (w.0, any_more_here (λ p. P p s) xs i d lt' w.1)
        ],
        λ h. elim (any_more_cases (λ p. P p s) xs i d lt' h.1) [
          | inl before ↦ any_left (λ a. HoldsScale a s) pieces (piece ∷ []) ((so_far s).1 (h.0, before))
          | inr now ↦ Any-push (λ a. HoldsScale a s) pieces piece (here.1 (h.0, now))
        ],
      )

  -- a box that has no scale within the whole stay leaves the pieces as they are
  pub pieces_same : (ys : List X) (i : ℕ) (d : X) (pieces : List Stay) → ys ≡ xs → i < length ys → Pieces i pieces →
      ((s : Fraction) → HoldsScale whole s × P (get_or ys i d) s → ⊥) → Pieces (i + 1) pieces
  pieces_same ys i d pieces same lt so_far none s =
      let lt' : i < length xs = subst (λ (zs : List X). i < length zs) same lt in (
        λ h. let w = (so_far s).0 h in (w.0, any_more_left (λ p. P p s) xs i d lt' w.1),
        λ h. elim (any_more_cases (λ p. P p s) xs i d lt' h.1) [
          | inl before ↦ (so_far s).1 (h.0, before)
          | inr now ↦ absurd (none s (h.0, subst (λ (zs : List X). P (get_or zs i d) s) (sym same) now))
        ],
      )
