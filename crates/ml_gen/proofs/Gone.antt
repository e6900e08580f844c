-- Features by their ids, where one goes or comes.
use Rattle.std.proofs.Common.{◌≡◌, ◌≢◌, ℕ, zero, suc, ◌+◌, ◌*◌, ◌<◌, ◌≤◌, Bool, true, false, cond, not, List, [], ◌∷◌, ◌++◌, length}
use Rattle.std.proofs.Common.{get_or, filter, map, flat_map, Contains, ◌⊎◌, inl, inr, refl, sym, ap, subst, ◌∙◌, arith, length-append}
use Rattle.std.specs.Str.{bytes_eq}
use Rattle.std.proofs.lemmas.List.Elements.{Contains-append_left, Contains-append_right}
use Rattle.std.proofs.lemmas.Slice.Eq.{bytes_eq-Decides}
use Rattle.ml_ratio.specs.declared.feature.Feature.{Feature}
use Rattle.ml_editor.specs.State.{HasFeature}
use Rattle.ml_gen.specs.Thing.{Thing, thing_of, first_town, things_in}
use Rattle.ml_gen.specs.declared.group.Group.{Group}

module _ {X : Type 0} where
  -- the first element is in the list
  pub here : (x : X) (xs : List X) → Contains (x ∷ xs) x
  here x xs = (0, omega arith, refl)

  -- what is in the rest of a list is in the list
  pub later : (x y : X) (xs : List X) → Contains xs y → Contains (x ∷ xs) y
  later x y xs there = (suc there.0, omega (arith, there.1), there.2)

  at_cases : (x y : X) (xs : List X) (k : ℕ) → k < length (x ∷ xs) → get_or (x ∷ xs) k y ≡ y → (x ≡ y) ⊎ Contains xs y
  at_cases x y xs zero lt is = inl is
  at_cases x y xs (suc k) lt is = inr (k, omega (arith, lt), is)

  -- an element of a list is the first one or is in the rest
  pub cases : (x y : X) (xs : List X) → Contains (x ∷ xs) y → (x ≡ y) ⊎ Contains xs y
  cases x y xs there = at_cases x y xs there.0 there.1 there.2

  -- nothing is in the empty list
  pub none_in_none : (x : X) → Contains [] x → ⊥
  none_in_none x there = omega (arith, there.1)

no_feature : (id : List ℕ) → ¬ (HasFeature [] id)
no_feature id there = none_in_none there.0 there.1

one_more : (f : Feature) (fs : List Feature) (id : List ℕ) → HasFeature fs id → HasFeature (f ∷ fs) id
one_more f fs id there = (there.0, later f there.0 fs there.1, there.2)

first_is : (f : Feature) (fs : List Feature) (id : List ℕ) → f.id ≡ id → HasFeature (f ∷ fs) id
first_is f fs id same = (f, here f fs, same)

feature_cases : (f : Feature) (fs : List Feature) (id : List ℕ) → HasFeature (f ∷ fs) id → (f.id ≡ id) ⊎ HasFeature fs id
feature_cases f fs id there = elim (cases f there.0 fs there.1) [
  | inl same ↦ inl (ap (λ (g : Feature). g.id) same ∙ there.2)
  | inr others ↦ inr (there.0, others, there.2)
]

-- ---- one feature goes

-- the features but any with the id
abbrev pub kept : List ℕ → List Feature → List Feature
kept gone fs = filter (λ (f : Feature). not (bytes_eq f.id gone)) fs

module _ (gone : List ℕ) where
  kept_one : (f : Feature) (fs rest : List Feature) (b : Bool) (id : List ℕ) → (HasFeature rest id → HasFeature fs id) → HasFeature (cond b (f ∷ rest) rest) id → HasFeature (f ∷ fs) id
  kept_one f fs rest true id others there = elim (feature_cases f rest id there) [
    | inl same ↦ first_is f fs id same
    | inr more ↦ one_more f fs id (others more)
  ]
  kept_one f fs rest false id others there = one_more f fs id (others there)

  -- what is left was there
  pub left_was_there : (fs : List Feature) (id : List ℕ) → HasFeature (kept gone fs) id → HasFeature fs id
  left_was_there [] id there = there
  left_was_there (f ∷ fs) id there = kept_one f fs (kept gone fs) (not (bytes_eq f.id gone)) id (left_was_there fs id) there

  gone_one : (f : Feature) (rest : List Feature) (b : Bool) → bytes_eq f.id gone ≡ b → ¬ (HasFeature rest gone) → ¬ (HasFeature (cond (not b) (f ∷ rest) rest) gone)
  gone_one f rest true test none there = none there
  gone_one f rest false test none there = elim (feature_cases f rest gone there) [
    | inl same ↦ (let is : bytes_eq f.id gone ≡ true = (bytes_eq-Decides f.id gone).1 same in let both : false ≡ true = sym test ∙ is in absurd (cc))
    | inr more ↦ none more
  ]

  -- what goes is no longer there
  pub is_gone : (fs : List Feature) → ¬ (HasFeature (kept gone fs) gone)
  is_gone [] there = no_feature gone there
  is_gone (f ∷ fs) there = gone_one f (kept gone fs) (bytes_eq f.id gone) refl (is_gone fs) there

  stays_one : (f : Feature) (rest : List Feature) (b : Bool) (id : List ℕ) → bytes_eq f.id gone ≡ b → id ≢ gone → f.id ≡ id → HasFeature (cond (not b) (f ∷ rest) rest) id
  stays_one f rest true id test other same = absurd (other (sym same ∙ (bytes_eq-Decides f.id gone).0 test))
  stays_one f rest false id test other same = first_is f rest id same

  more_stays : (f : Feature) (rest : List Feature) (b : Bool) (id : List ℕ) → HasFeature rest id → HasFeature (cond b (f ∷ rest) rest) id
  more_stays f rest true id there = one_more f rest id there
  more_stays f rest false id there = there

  -- every other feature stays
  pub others_stay : (fs : List Feature) (id : List ℕ) → id ≢ gone → HasFeature fs id → HasFeature (kept gone fs) id
  others_stay [] id other there = there
  others_stay (f ∷ fs) id other there = elim (feature_cases f fs id there) [
    | inl same ↦ stays_one f (kept gone fs) (bytes_eq f.id gone) id refl other same
    | inr more ↦ more_stays f (kept gone fs) (not (bytes_eq f.id gone)) id (others_stay fs id other more)
  ]

  long_one : (f : Feature) (fs rest : List Feature) (b : Bool) → length rest ≤ length fs → length (cond b (f ∷ rest) rest) ≤ length fs + 1
  long_one f fs rest true le = omega (arith, le)
  long_one f fs rest false le = omega (arith, le)

  no_longer : (fs : List Feature) → length (kept gone fs) ≤ length fs
  no_longer [] = omega arith
  no_longer (f ∷ fs) = (let le = long_one f fs (kept gone fs) (not (bytes_eq f.id gone)) (no_longer fs) in omega (arith, le))

  dropped_one : (f : Feature) (fs rest : List Feature) (b : Bool) → bytes_eq f.id gone ≡ b → f.id ≡ gone → length rest ≤ length fs → length (cond (not b) (f ∷ rest) rest) + 1 ≤ length (f ∷ fs)
  dropped_one f fs rest true test same le = omega (arith, le)
  dropped_one f fs rest false test same le = (let is : bytes_eq f.id gone ≡ true = (bytes_eq-Decides f.id gone).1 same in let both : false ≡ true = sym test ∙ is in absurd (cc))

  shorter_one : (f : Feature) (fs rest : List Feature) (b : Bool) → length rest + 1 ≤ length fs → length (cond b (f ∷ rest) rest) + 1 ≤ length (f ∷ fs)
  shorter_one f fs rest true le = omega (arith, le)
  shorter_one f fs rest false le = omega (arith, le)

  -- where it was there, there are fewer
  pub fewer_left : (fs : List Feature) → HasFeature fs gone → length (kept gone fs) + 1 ≤ length fs
  fewer_left [] there = absurd (no_feature gone there)
  fewer_left (f ∷ fs) there = elim (feature_cases f fs gone there) [
    | inl same ↦ dropped_one f fs (kept gone fs) (bytes_eq f.id gone) refl same (no_longer fs)
    | inr more ↦ shorter_one f fs (kept gone fs) (not (bytes_eq f.id gone)) (fewer_left fs more)
  ]

-- ---- one feature comes

-- no feature of another id comes with it
pub others_absent : (fs : List Feature) (g : Feature) (id : List ℕ) → g.id ≢ id → ¬ (HasFeature fs id) → ¬ (HasFeature (fs ++ g ∷ []) id)
others_absent [] g id other none there = elim (feature_cases g [] id there) [
  | inl same ↦ other same
  | inr more ↦ no_feature id more
]
others_absent (f ∷ fs) g id other none there = elim (feature_cases f (fs ++ g ∷ []) id there) [
  | inl same ↦ none (first_is f fs id same)
  | inr more ↦ others_absent fs g id other (λ old. none (one_more f fs id old)) more
]

-- ---- the features that are read

-- a feature is there for each thing
pub made_have : (fs : List Feature) (t : Thing) → Contains (map thing_of fs) t → HasFeature fs t.id
made_have [] t there = absurd (none_in_none t there)
made_have (f ∷ fs) t there = elim (cases (thing_of f) t (map thing_of fs) there) [
  | inl same ↦ first_is f fs t.id (ap (λ (u : Thing). u.id) same)
  | inr more ↦ one_more f fs t.id (made_have fs t more)
]

-- the first town of each group is among the things of groups
pub town_there : (groups : List Group) (group : Group) → Contains groups group → Contains (flat_map things_in groups) (first_town group)
town_there [] group there = absurd (none_in_none group there)
town_there (g ∷ gs) group there = elim (cases g group gs there) [
  | inl same ↦ Contains-append_left (things_in g) (flat_map things_in gs) (first_town group) (subst (λ (h : Group). Contains (things_in g) (first_town h)) same (0, omega arith, refl))
  | inr more ↦ Contains-append_right (things_in g) (flat_map things_in gs) (first_town group) (town_there gs group more)
]

-- each group has five
pub five_each : (groups : List Group) → length (flat_map things_in groups) ≡ length groups * 5
five_each [] = refl
five_each (g ∷ gs) = (let rest = five_each gs in let both = length-append (things_in g) (flat_map things_in gs) in omega (arith, rest, both))
