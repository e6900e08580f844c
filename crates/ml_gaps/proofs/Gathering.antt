-- The places of strips that a label is not past.
use Rattle.std.proofs.Common.{◌≡◌, ℕ, ◌+◌, ◌<◌, ◌≤◌, ◌⊎◌, inl, inr, List, [], ◌∷◌, ◌++◌, length, get_or, take, refl, sym, subst, ℤ}
use Rattle.std.specs.Prelude.{Any, Contains}
use Rattle.std.proofs.lemmas.List.{take_all}
use Rattle.std.proofs.lemmas.List.Elements.{Contains-append_left, Contains-push, Contains-push_cases}
use Rattle.ml_ratio.proofs.lemmas.Anys.{any_none, any_more_cases, any_more_left, any_more_here}
use Rattle.ml_gaps.specs.Strip.{IsPast}
use Rattle.ml_gaps.specs.Places.{Gathers}
use Rattle.ml_gaps.specs.declared.strip.Strip.{Strip}

module _ (at : ℤ) (reach : ℕ) where
  -- of strips that the label is past, no place is owed
  pub gathers_none : (Has : Strip → Type 0) (places : List ℕ) → ((strip : Strip) → Has strip → IsPast at reach strip) → Gathers at reach Has places places
  gathers_none Has places past = record {
    kept = λ j h. h;
    found = λ strip h. inr (past strip h);
    only = λ j h. inl h;
  }

  -- the place of one strip
  pub gathers_one : (strip : Strip) (places : List ℕ) → Gathers at reach (λ other. strip ≡ other) places (places ++ strip.place ∷ [])
  gathers_one strip places = record {
    kept = λ j h. Contains-append_left places (strip.place ∷ []) j h;
    found = λ other same. inl (subst (λ (t : Strip). Contains (places ++ strip.place ∷ []) t.place) same (Contains-push places strip.place));
    only = λ j h. elim (Contains-push_cases places strip.place j h) [
      | inl before ↦ inl before
      | inr last ↦ inr (strip, refl, last)
    ];
  }

  -- first the places of some strips, and then those of others: together those of both
  pub gathers_more : (Old Here New : Strip → Type 0) (old between new : List ℕ) → Gathers at reach Old old between → Gathers at reach Here between new →
      ((strip : Strip) → New strip → Old strip ⊎ Here strip) → ((strip : Strip) → Old strip → New strip) → ((strip : Strip) → Here strip → New strip) →
      Gathers at reach New old new
  gathers_more Old Here New old between new first second cases before here = record {
    kept = λ j h. second.kept j (first.kept j h);
    found = λ strip h. elim (cases strip h) [
      | inl was ↦ elim (first.found strip was) [
        | inl in' ↦ inl (second.kept strip.place in')
        | inr past ↦ inr past
      ]
      | inr is ↦ second.found strip is
    ];
    only = λ j h. elim (second.only j h) [
      | inl earlier ↦ elim (first.only j earlier) [
        | inl in' ↦ inl in'
        | inr (strip, was, place) ↦ inr (strip, before strip was, place)
      ]
      | inr (strip, is, place) ↦ inr (strip, here strip is, place)
    ];
  }

  -- of strips that some of a list have: one of the list after another
  module _ {X : Type 0} (P : Strip → X → Type 0) where
    -- none of no list has a strip
    pub gathers_nothing : (places : List ℕ) → Gathers at reach (λ strip. Any (P strip) []) places places
    gathers_nothing places = gathers_none (λ strip. Any (P strip) []) places (λ strip h. absurd (any_none (P strip) h))

    -- after those of the first of the list come those of the next
    pub gathers_next : (xs : List X) (i : ℕ) (x : X) → i < length xs → x ≡ get_or xs i x → (old between new : List ℕ) →
        Gathers at reach (λ strip. Any (P strip) (take i xs)) old between → Gathers at reach (λ strip. P strip x) between new →
        Gathers at reach (λ strip. Any (P strip) (take (i + 1) xs)) old new
    gathers_next xs i x lt own old between new first second =
        gathers_more (λ strip. Any (P strip) (take i xs)) (λ strip. P strip x) (λ strip. Any (P strip) (take (i + 1) xs)) old between new first second
        (λ strip h. elim (any_more_cases (P strip) xs i x lt h) [
          | inl before ↦ inl before
          | inr here ↦ inr (subst (P strip) (sym own) here)
        ])
        (λ strip h. any_more_left (P strip) xs i x lt h) (λ strip h. any_more_here (P strip) xs i x lt (subst (P strip) own h))

    -- at its end those of all of the list
    pub gathers_all : (xs : List X) (i : ℕ) → length xs ≤ i → (old new : List ℕ) → Gathers at reach (λ strip. Any (P strip) (take i xs)) old new →
        Gathers at reach (λ strip. Any (P strip) xs) old new
    gathers_all xs i end old new all = subst (λ (ys : List X). Gathers at reach (λ strip. Any (P strip) ys) old new) (take_all i xs end) all
