-- Turns one after another.
use Rattle.std.proofs.Common.{◌≡◌, ◌≢◌, ℕ, suc, ◌+◌, ◌<◌, ◌≤◌, List, [], ◌∷◌, ◌++◌, length, get_or, take, map, All, codes, inl, inr, refl, sym, ap, subst, ◌∙◌, arith, length-append}
use Rattle.std.proofs.lemmas.Bool.{cases_lt}
use Rattle.std.proofs.lemmas.List.{get_or_default, length-map, map-append, take_more}
use Rattle.ml_ratio.specs.declared.feature.Feature.{Feature}
use Rattle.ml_editor.specs.State.{State, HasFeature, step}
use Rattle.ml_editor.specs.declared.edit.Edit.TheVariants.{Add, Remove}
use Rattle.ml_gen.specs.Group.{IsGroupPlace, HaveOwnNumbers}
use Rattle.ml_gen.specs.Thing.{id_of}
use Rattle.ml_gen.specs.Turn.{Turn, goes, comes, IsTurn, Run}
use Rattle.ml_gen.specs.declared.counts.Counts.{Counts}
use Rattle.ml_gen.specs.declared.group.Group.{Group}
use Rattle.ml_gen.proofs.Ids.{same_group}
use Rattle.ml_gen.proofs.Gone.{left_was_there, is_gone, others_stay, fewer_left, others_absent}

-- a run that goes on where another one ended is one run with it
pub run_on : (a b c : State) (ts us : List Turn) (xs ys : List Counts) → Run a ts xs b → Run b us ys c → Run a (ts ++ us) (xs ++ ys) c
run_on a b c [] us [] ys first second = subst (λ (s : State). Run s us ys c) first second
run_on a b c [] us (x ∷ xs) ys first second = absurd first
run_on a b c (t ∷ ts) us [] ys first second = absurd first
run_on a b c (t ∷ ts) us (x ∷ xs) ys first second = (first.0, first.1, run_on first.0 b c ts us xs ys first.2 second)

-- as many things come of turns as there are turns
pub run_long : (a b : State) (ts : List Turn) (xs : List Counts) → Run a ts xs b → length xs ≡ length ts
run_long a b [] [] run = refl
run_long a b [] (x ∷ xs) run = absurd run
run_long a b (t ∷ ts) [] run = absurd run
run_long a b (t ∷ ts) (x ∷ xs) run = ap suc (run_long run.0 b ts xs run.2)

-- one turn more, of the next group
pub turn_more : (turn : Group → Turn) (groups : List Group) (k : ℕ) (g : Group) (a b c : State) (xs : List Counts) (x : Counts) → k < length groups → get_or groups k g ≡ g →
    Run a (map turn (take k groups)) xs b → IsTurn (turn g) b x c → Run a (map turn (take (k + 1) groups)) (xs ++ x ∷ []) c
turn_more turn groups k g a b c xs x lt is run one =
    let more : take (k + 1) groups ≡ take k groups ++ g ∷ [] = take_more groups k g lt ∙ ap (λ (h : Group). take k groups ++ h ∷ []) is in
    let turns : map turn (take k groups) ++ turn g ∷ [] ≡ map turn (take (k + 1) groups) = sym (map-append turn (take k groups) (g ∷ [])) ∙ ap (map turn) (sym more) in
    subst (λ (ts : List Turn). Run a ts (xs ++ x ∷ []) c) turns (run_on a b c (map turn (take k groups)) (turn g ∷ []) xs (x ∷ []) run (c, one, refl))

-- the id of a group's first town
abbrev pub town_id : Group → List ℕ
town_id g = id_of g (codes "a")

module _ (groups : List Group) (own : HaveOwnNumbers groups) (placed : All IsGroupPlace groups) (k : ℕ) (g : Group) (lt : k < length groups) (is : get_or groups k g ≡ g) where
  here_is : (d : Group) → get_or groups k d ≡ g
  here_is d = get_or_default groups k d g lt ∙ is

  number_apart : (j : ℕ) (d : Group) → j < length groups → ¬ (j ≡ k) → (get_or groups j d).number ≢ g.number
  number_apart j d low other same =
      let one : (get_or groups j d).number ≡ (get_or groups k d).number = same ∙ ap (λ (h : Group). h.number) (sym (here_is d)) in
      elim (cases_lt j k) [
        | inl below ↦ own j k d below lt one
        | inr above ↦ own k j d (omega (arith, above, other)) low (sym one)
      ]

  -- another group's first town has another id
  pub ids_apart : (j : ℕ) (d : Group) → j < length groups → ¬ (j ≡ k) → town_id (get_or groups j d) ≢ town_id g
  ids_apart j d low other same =
      number_apart j d low other (same_group (get_or groups j d) g 97 97 (placed j d low).0 (subst IsGroupPlace (here_is d) (placed k d lt)).0 same)

  module _ (s t : State) where
    module _ (goes : t ≡ step s (Remove (town_id g))) where
      -- those behind are still there
      pub still_there : (j : ℕ) (d : Group) → j < length groups → k + 1 ≤ j → HasFeature s.features (town_id (get_or groups j d)) → HasFeature t.features (town_id (get_or groups j d))
      still_there j d low behind there =
          subst (λ (u : State). HasFeature u.features (town_id (get_or groups j d))) (sym goes)
          (others_stay (town_id g) s.features (town_id (get_or groups j d)) (ids_apart j d low (λ same. omega (arith, behind, same))) there)

      -- those before, and this one, are gone
      pub now_gone : ((j : ℕ) (d : Group) → j < k → ¬ (HasFeature s.features (town_id (get_or groups j d)))) → (j : ℕ) (d : Group) → j < k + 1 → ¬ (HasFeature t.features (town_id (get_or groups j d)))
      now_gone gone j d low there =
          let left : HasFeature (step s (Remove (town_id g))).features (town_id (get_or groups j d)) = subst (λ (u : State). HasFeature u.features (town_id (get_or groups j d))) goes there in
          elim (cases_lt j k) [
            | inl below ↦ gone j d below (left_was_there (town_id g) s.features (town_id (get_or groups j d)) left)
            | inr above ↦ (
                let at : j ≡ k = omega (arith, above, low) in
                let same : town_id (get_or groups j d) ≡ town_id g = ap (λ (i : ℕ). town_id (get_or groups i d)) at ∙ ap town_id (here_is d) in
                is_gone (town_id g) s.features (subst (λ (id : List ℕ). HasFeature (step s (Remove (town_id g))).features id) same left))
          ]

      -- the town's removal leaves at least one feature fewer, if the town was there
      pub one_fewer : HasFeature s.features (town_id g) → length t.features + 1 ≤ length s.features
      one_fewer there = subst (λ (u : State). length u.features + 1 ≤ length s.features) (sym goes) (fewer_left (town_id g) s.features there)

      -- the town's removal leads to the next revision
      pub next_rev : t.rev ≡ s.rev + 1
      next_rev = ap (λ (u : State). u.rev) goes

    module _ (f : Feature) (id : f.id ≡ town_id g) (comes : t ≡ step s (Add f)) where
      -- those behind are still gone
      pub still_gone : (j : ℕ) (d : Group) → j < length groups → k + 1 ≤ j → ¬ (HasFeature s.features (town_id (get_or groups j d))) → ¬ (HasFeature t.features (town_id (get_or groups j d)))
      still_gone j d low behind gone there =
          others_absent s.features f (town_id (get_or groups j d)) (λ same. ids_apart j d low (λ at. omega (arith, behind, at)) (sym same ∙ id)) gone
          (subst (λ (u : State). HasFeature u.features (town_id (get_or groups j d))) comes there)

      -- the town's return makes one feature more
      pub one_longer : length t.features ≡ length s.features + 1
      one_longer = ap (λ (u : State). length u.features) comes ∙ length-append s.features (f ∷ [])

      -- the town's return leads to the next revision, too
      pub rev_after : t.rev ≡ s.rev + 1
      rev_after = ap (λ (u : State). u.rev) comes

-- some turns and then others, with all that comes of them
pub run_both : (a b c : State) (ts us : List Turn) (xs ys zs : List Counts) → zs ≡ xs ++ ys → Run a ts xs b → Run b us ys c → Run a (ts ++ us) zs c
run_both a b c ts us xs ys zs all first second = subst (λ (each : List Counts). Run a (ts ++ us) each c) (sym all) (run_on a b c ts us xs ys first second)

-- the same run by other words
pub run_same : (a b c : State) (ts us : List Turn) (xs ys : List Counts) → a ≡ b → ts ≡ us → xs ≡ ys → Run a ts xs c → Run b us ys c
run_same a b c ts us xs ys from turns all run =
    subst (λ (s : State). Run s us ys c) from (subst (λ (vs : List Turn). Run a vs ys c) turns (subst (λ (each : List Counts). Run a ts each c) all run))

-- as many things come of all edits as there are groups, and again
pub twice_long : (a b : State) (groups : List Group) (xs : List Counts) → Run a (map goes groups ++ map comes groups) xs b → length xs ≡ length groups + length groups
twice_long a b groups xs run =
    run_long a b (map goes groups ++ map comes groups) xs run ∙ length-append (map goes groups) (map comes groups)
    ∙ ap (λ (n : ℕ). n + length (map comes groups)) (length-map groups goes) ∙ ap (λ (n : ℕ). length groups + n) (length-map groups comes)
