-- An index over rows, of which each value belongs to the row of its number.
use Rattle.std.proofs.Common.{◌≡◌, ℕ, List, [], arith, Contains, ◌⊎◌, inl, inr, sym, ap, ◌∙◌, subst, Option, Some, None}
use Rattle.std.specs.Prelude.{◌↔◌}
use Rattle.std.specs.List.Sorted.{IsPermutation}
use Rattle.std.proofs.lemmas.Bool.{cases_eq}
use Rattle.std.proofs.lemmas.List.Sorted.{Contains-permutation, IsPermutation-sym}
use Rattle.ml_grid.specs.Entry.{Entry}
use Rattle.ml_ratio.specs.Lists.{IsAdded}
use Rattle.ml_store.specs.Rows.{IsFresh}
use Rattle.ml_store.specs.Store.{Pair, IsPairBy, IsIndex, IsEntryIn, IsPairIn}
use Rattle.ml_store.specs.declared.row.Row.{Row}
use Rattle.ml_store.proofs.Fresh.{not_fresh}
use Rattle.ml_ratio.proofs.lemmas.Lists.{added_has, added_only, contained}

module _ {X : Type 0} (number_of : X → ℕ) (Q : Row → X → Type 0) (own : (r : Row) (x : X) → Q r x → number_of x ≡ r.number) where
  -- nothing in the index has a number that no row has
  pub index_free : (n : ℕ) (rows : List Row) (index : List X) → IsFresh n rows → IsIndex Q rows index → (x : X) → Contains index x → ¬ (number_of x ≡ n)
  index_free n rows index fresh is x c e =
      let h = (is x).0 c in
      not_fresh rows n h.0 fresh h.1 (sym (own h.0 x h.2) ∙ e)

  -- what has a row's number is that row's
  pub index_its : {r : Row} {shorter longer : List Row} (index : List X) → IsAdded r shorter longer → IsFresh r.number shorter → IsIndex Q longer index →
      (x : X) → (Contains index x × (number_of x ≡ r.number)) ↔ Q r x
  index_its {r} {shorter} index a fresh is x = (
    λ h.
        let some = (is x).0 h.0 in
        elim (added_only a some.0 some.1) [
          | inl same ↦ subst (λ (s : Row). Q s x) (sym same) some.2
          | inr old ↦ absurd (not_fresh shorter r.number some.0 fresh old (sym (own some.0 x some.2) ∙ h.1))
        ],
    λ q. ((is x).1 (r, contained a, q), own r x q),
  )

  -- a row comes in
  pub index_more : {r : Row} {shorter longer : List Row} (index after : List X) → IsAdded r shorter longer → IsIndex Q shorter index →
      ((x : X) → Contains after x ↔ (Contains index x ⊎ Q r x)) → IsIndex Q longer after
  index_more {r} index after a is edit x = (
    λ c. elim ((edit x).0 c) [
      | inl old ↦ let some = (is x).0 old in (some.0, added_has a some.0 some.1, some.2)
      | inr new ↦ (r, contained a, new)
    ],
    λ some. elim (added_only a some.0 some.1) [
      | inl same ↦ (edit x).1 (inr (subst (λ (s : Row). Q s x) (sym same) some.2))
      | inr old ↦ (edit x).1 (inl ((is x).1 (some.0, old, some.2)))
    ],
  )

  -- a row goes
  pub index_less : {r : Row} {shorter longer : List Row} (index after : List X) → IsAdded r shorter longer → IsFresh r.number shorter → IsIndex Q longer index →
      ((x : X) → Contains after x ↔ (Contains index x × (¬ (Q r x)))) → IsIndex Q shorter after
  index_less {r} {shorter} index after a fresh is edit x = (
    λ c.
        let h = (edit x).0 c in
        let some = (is x).0 h.0 in
        elim (added_only a some.0 some.1) [
          | inl same ↦ absurd (h.1 (subst (λ (s : Row). Q s x) (sym same) some.2))
          | inr old ↦ (some.0, old, some.2)
        ],
    λ some. (edit x).1 (
      (is x).1 (some.0, added_has a some.0 some.1, some.2),
      λ q. not_fresh shorter r.number some.0 fresh some.1 (sym (own some.0 x some.2) ∙ own r x q),
    ),
  )

  -- a row is exchanged for another one of its number
  pub index_moved : {r s : Row} {rest was is' : List Row} (index after : List X) → s.number ≡ r.number → IsAdded r rest was → IsAdded s rest is' → IsFresh r.number rest → IsIndex Q was index →
      ((x : X) → Contains after x ↔ ((Contains index x × (¬ (number_of x ≡ r.number))) ⊎ Q s x)) → IsIndex Q is' after
  index_moved {r} {s} {rest} index after same a b fresh is edit x = (
    λ c. elim ((edit x).0 c) [
      | inl old ↦
          let some = (is x).0 old.0 in
          elim (added_only a some.0 some.1) [
            | inl self ↦ absurd (old.1 (own some.0 x some.2 ∙ ap (λ (t : Row). t.number) (sym self)))
            | inr other ↦ (some.0, added_has b some.0 other, some.2)
          ]
      | inr new ↦ (s, contained b, new)
    ],
    λ some. elim (added_only b some.0 some.1) [
      | inl self ↦ (edit x).1 (inr (subst (λ (t : Row). Q t x) (sym self) some.2))
      | inr other ↦ (edit x).1 (inl (
        (is x).1 (some.0, added_has a some.0 other, some.2),
        λ e. not_fresh rest r.number some.0 fresh other (sym (own some.0 x some.2) ∙ e),
      ))
    ],
  )

-- what had the number goes, and other values come
module _ {X : Type 0} (number_of : X → ℕ) (n : ℕ) (P Q : X → Type 0) (old : List X) (its : (x : X) → (Contains old x × (number_of x ≡ n)) ↔ P x) where
  -- once all that had the number are gone, nothing that is left has it
  pub moved_free : (less : List X) → ((x : X) → Contains less x ↔ (Contains old x × (¬ (P x)))) → (x : X) → Contains less x → ¬ (number_of x ≡ n)
  moved_free less went x c e = let h = (went x).0 c in h.1 ((its x).0 (h.0, e))

  -- where the values with the number go first and others come after, the index has the values of other numbers and what came
  pub moved_both : (less new : List X) → ((x : X) → Contains less x ↔ (Contains old x × (¬ (P x)))) → ((x : X) → Contains new x ↔ (Contains less x ⊎ Q x)) →
      (x : X) → Contains new x ↔ ((Contains old x × (¬ (number_of x ≡ n))) ⊎ Q x)
  moved_both less new went came x = (
    λ c. elim ((came x).0 c) [
      | inl stays ↦ let h = (went x).0 stays in inl (h.0, λ e. h.1 ((its x).0 (h.0, e)))
      | inr comes ↦ inr comes
    ],
    λ h. elim h [
      | inl stays ↦ (came x).1 (inl ((went x).1 (stays.0, λ p. stays.1 ((its x).1 p).1)))
      | inr comes ↦ (came x).1 (inr comes)
    ],
  )

  -- at once
  pub moved_as : (new : List X) → ((x : X) → Contains new x ↔ ((Contains old x × (¬ (P x))) ⊎ Q x)) → (x : X) → Contains new x ↔ ((Contains old x × (¬ (number_of x ≡ n))) ⊎ Q x)
  moved_as new moved x = (
    λ c. elim ((moved x).0 c) [
      | inl stays ↦ inl (stays.0, λ e. stays.1 ((its x).0 (stays.0, e)))
      | inr comes ↦ inr comes
    ],
    λ h. elim h [
      | inl stays ↦ (moved x).1 (inl (stays.0, λ p. stays.1 ((its x).1 p).1))
      | inr comes ↦ (moved x).1 (inr comes)
    ],
  )

  -- nothing goes and nothing comes
  pub moved_none : ((x : X) → Q x ↔ P x) → (x : X) → Contains old x ↔ ((Contains old x × (¬ (number_of x ≡ n))) ⊎ Q x)
  moved_none same x = (
    λ c. elim (cases_eq (number_of x) n) [
      | inl e ↦ inr ((same x).1 ((its x).0 (c, e)))
      | inr ne ↦ inl (c, ne)
    ],
    λ h. elim h [
      | inl stays ↦ stays.0
      | inr q ↦ ((its x).1 ((same x).0 q)).0
    ],
  )

-- no rows have nothing in an index
pub index_none : {X : Type 0} (Q : Row → X → Type 0) → IsIndex Q [] []
index_none Q x = (λ h. absurd (let none = h.1 in omega arith), λ h. absurd (let there = h.1 in let none = there.1 in omega arith))

-- the same values in another order
pub index_same : {X : Type 0} (Q : Row → X → Type 0) (rows : List Row) (index after : List X) → IsPermutation index after → IsIndex Q rows index → IsIndex Q rows after
index_same Q rows index after moved is x = (
  λ there. (is x).0 (Contains-permutation after index x (IsPermutation-sym index after moved) there),
  λ some. Contains-permutation index after x moved ((is x).1 some),
)

-- ---- the two indices

-- an entry of a row has the row's number for its value
pub entry_number : (r : Row) (e : Entry) → IsEntryIn r e → e.value ≡ r.number
entry_number r e h = h.its_number

-- a pair of a label's number and its blocker has the label's number for its value
pub pair_by_number : (number : ℕ) (blocker : Option ℕ) (p : Pair) → IsPairBy number blocker p → p.value ≡ number
pair_by_number number None p h = absurd h
pair_by_number number (Some b) p h = ap (λ (q : Pair). q.value) h

-- a pair of a row has the row's number for its value
pub pair_number : (r : Row) (p : Pair) → IsPairIn r p → p.value ≡ r.number
pair_number r p h = pair_by_number r.number r.slot.blocker p h
