-- The widest run is one.
use Rattle.std.proofs.Common.{◌≡◌, ℕ, ◌+◌, ◌<◌, ◌≤◌, List, inl, inr, sym, ap, ◌∙◌, subst, arith}
use Rattle.std.proofs.lemmas.Bool.{cases_order}
use Rattle.ml_ratio.specs.declared.geometry.Pos.{Pos}
use Rattle.ml_river.specs.Run.{IsStrict, IsRun, IsBefore, IsWidestRun, line_at, turned}

-- a strict stretch is strict up to each place in it
shorter : (line : List Pos) (a b n : ℕ) → n ≤ b → IsStrict line a b → IsStrict line a n
shorter line a b n h (inl g) = inl (λ k from to. g k from (omega arith))
shorter line a b n h (inr g) = inr (λ k from to. g k from (omega arith))

-- no run stops short of one from the same place
no_shorter : (line : List Pos) (a m n : ℕ) → IsRun line a m → IsRun line a n → m < n → ⊥
no_shorter line a m n p q less =
    let there = q.there in
    p.last (omega arith) (shorter line a n (m + 1) (omega arith) q.strict)

-- runs from one place end at one place
one_end : (line : List Pos) (a m n : ℕ) → IsRun line a m → IsRun line a n → m ≡ n
one_end line a m n p q =
    elim (cases_order m n) [
      | inl e ↦ e
      | inr (inl l) ↦ absurd (no_shorter line a m n p q l)
      | inr (inr g) ↦ absurd (no_shorter line a n m q p g)
    ]

-- no widest run begins before another one
no_earlier : (lines : List (List Pos)) (i a b k m n : ℕ) → IsWidestRun lines i a b → IsWidestRun lines k m n → IsBefore i a k m → ⊥
no_earlier lines i a b k m n p q before =
    let less = q.first i a b p.run before in
    let most = p.widest k m n q.run in
    omega arith

-- the same line, the same first and the same last place
abbrev IsSameRun : ℕ → ℕ → ℕ → ℕ → ℕ → ℕ → Type 0
IsSameRun i a b k m n = (i ≡ k) × (a ≡ m) × (b ≡ n)

same_line : (lines : List (List Pos)) (i a b k m n : ℕ) → i ≡ k → IsWidestRun lines i a b → IsWidestRun lines k m n → IsSameRun i a b k m n
same_line lines i a b k m n e p q =
    elim (cases_order a m) [
      | inl f ↦
          let there : IsRun (line_at lines i) a n = subst (λ (j : ℕ). IsRun (line_at lines j) a n) (sym e) (subst (λ (j : ℕ). IsRun (line_at lines k) j n) (sym f) q.run.1) in
          (e, f, one_end (line_at lines i) a b n p.run.1 there)
      | inr (inl l) ↦ absurd (no_earlier lines i a b k m n p q (inr (e, l)))
      | inr (inr g) ↦ absurd (no_earlier lines k m n i a b q p (inr (sym e, g)))
    ]

-- the widest run is one
one_widest : (lines : List (List Pos)) (i a b k m n : ℕ) → IsWidestRun lines i a b → IsWidestRun lines k m n → IsSameRun i a b k m n
one_widest lines i a b k m n p q =
    elim (cases_order i k) [
      | inl e ↦ same_line lines i a b k m n e p q
      | inr (inl l) ↦ absurd (no_earlier lines i a b k m n p q (inl l))
      | inr (inr g) ↦ absurd (no_earlier lines k m n i a b q p (inl g))
    ]

-- and so are its positions
pub one_turned : (lines : List (List Pos)) (i a b k m n : ℕ) → IsWidestRun lines i a b → IsWidestRun lines k m n → turned (line_at lines i) a b ≡ turned (line_at lines k) m n
one_turned lines i a b k m n p q =
    let same = one_widest lines i a b k m n p q in
    ap (λ (j : ℕ). turned (line_at lines j) a b) same.0
    ∙ (ap (λ (j : ℕ). turned (line_at lines k) j b) same.1 ∙ ap (λ (j : ℕ). turned (line_at lines k) m j) same.2)
