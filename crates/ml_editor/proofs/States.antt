-- What holds of the state after an edit.
use Rattle.std.proofs.Common.{◌≡◌, ℕ, zero, suc, ◌+◌, ◌<◌, ◌≤◌, Bool, true, false, cond, not, List, [], ◌∷◌, ◌++◌, length}
use Rattle.std.proofs.Common.{get_or, filter, map, take, ◌⊎◌, inl, inr, refl, sym, ap, subst, ◌∙◌, arith, length-append}
use Rattle.std.proofs.lemmas.List.{length-map, length-take, get_or-take, get_or_default}
use Rattle.std.proofs.lemmas.List.Elements.{Contains-append_left, Contains-append_right}
use Rattle.std.specs.Str.{bytes_eq}
use Rattle.std.proofs.lemmas.Slice.Eq.{bytes_eq-Decides}
use Rattle.ml_ratio.specs.declared.feature.Feature.{Feature}
use Rattle.ml_geojson.specs.Map.{HaveDifferentIds}
use Rattle.ml_editor.specs.declared.edit.Edit.{Edit}
use Rattle.ml_editor.specs.declared.edit.Edit.TheVariants.{Add, Replace, Remove, Restyle}
use Rattle.ml_editor.specs.State.{State, IsState, IsAllowed, HasFeature, in_place, step, last_rev}
use Rattle.ml_editor.proofs.Same.{here, later, cases}

-- where there are no features, none has the id
pub no_feature : (id : List ℕ) → ¬ (HasFeature [] id)
no_feature id there = let lt = there.1.1 in omega arith

one_more : (f : Feature) (fs : List Feature) (id : List ℕ) → HasFeature fs id → HasFeature (f ∷ fs) id
one_more f fs id there = (there.0, later f there.0 fs there.1, there.2)

feature_cases : (f : Feature) (fs : List Feature) (id : List ℕ) → HasFeature (f ∷ fs) id → (f.id ≡ id) ⊎ HasFeature fs id
feature_cases f fs id there = elim (cases f there.0 fs there.1) [
  | inl same ↦ inl (ap (λ (g : Feature). g.id) same ∙ there.2)
  | inr others ↦ inr (there.0, others, there.2)
]

differ_tail : (f : Feature) (fs : List Feature) → HaveDifferentIds (f ∷ fs) → HaveDifferentIds fs
differ_tail f fs differ i j d below lt = differ (suc i) (suc j) d (omega (arith, below)) (omega (arith, lt))

differ_first : (f : Feature) (fs : List Feature) → HaveDifferentIds (f ∷ fs) → ¬ (HasFeature fs f.id)
differ_first f fs differ there =
    let lt = there.1.1 in
    differ 0 (suc there.1.0) there.0 (omega arith) (omega arith) (sym (ap (λ (g : Feature). g.id) there.1.2 ∙ there.2))

has_at : (fs : List Feature) (k : ℕ) (d : Feature) → k < length fs → HasFeature fs (get_or fs k d).id
has_at [] k d lt = absurd (omega (arith, lt))
has_at (f ∷ fs) zero d lt = (f, here f fs, refl)
has_at (f ∷ fs) (suc k) d lt = one_more f fs (get_or fs k d).id (has_at fs k d (omega (arith, lt)))

differ_cons : (f : Feature) (fs : List Feature) → ¬ (HasFeature fs f.id) → HaveDifferentIds fs → HaveDifferentIds (f ∷ fs)
differ_cons f fs new differ zero zero d below lt = absurd (omega (arith, below))
differ_cons f fs new differ zero (suc j) d below lt = λ same. let P : List ℕ → Type 0 = λ id. HasFeature fs id in new (subst P (sym same) (has_at fs j d (omega (arith, lt))))
differ_cons f fs new differ (suc i) zero d below lt = absurd (omega (arith, below))
differ_cons f fs new differ (suc i) (suc j) d below lt = differ i j d (omega (arith, below)) (omega (arith, lt))

differ_none : HaveDifferentIds []
differ_none i j d below lt = absurd (omega (arith, lt))

-- ---- one feature goes

abbrev kept : List ℕ → List Feature → List Feature
kept id fs = filter (λ (f : Feature). not (bytes_eq f.id id)) fs

kept_one : (f : Feature) (fs rest : List Feature) (b : Bool) (id : List ℕ) → (HasFeature rest id → HasFeature fs id) → HasFeature (cond b (f ∷ rest) rest) id → HasFeature (f ∷ fs) id
kept_one f fs rest true id others there = elim (feature_cases f rest id there) [
  | inl same ↦ (f, here f fs, same)
  | inr more ↦ one_more f fs id (others more)
]
kept_one f fs rest false id others there = one_more f fs id (others there)

kept_has : (gone : List ℕ) (fs : List Feature) (id : List ℕ) → HasFeature (kept gone fs) id → HasFeature fs id
kept_has gone [] id there = there
kept_has gone (f ∷ fs) id there = kept_one f fs (kept gone fs) (not (bytes_eq f.id gone)) id (kept_has gone fs id) there

kept_differ_one : (f : Feature) (rest : List Feature) (b : Bool) → ¬ (HasFeature rest f.id) → HaveDifferentIds rest → HaveDifferentIds (cond b (f ∷ rest) rest)
kept_differ_one f rest true new differ = differ_cons f rest new differ
kept_differ_one f rest false new differ = differ

kept_differ : (gone : List ℕ) (fs : List Feature) → HaveDifferentIds fs → HaveDifferentIds (kept gone fs)
kept_differ gone [] differ = differ_none
kept_differ gone (f ∷ fs) differ = kept_differ_one f (kept gone fs) (not (bytes_eq f.id gone))
    (λ there. differ_first f fs differ (kept_has gone fs f.id there)) (kept_differ gone fs (differ_tail f fs differ))

kept_long_one : (f : Feature) (fs rest : List Feature) (b : Bool) → length rest ≤ length fs → length (cond b (f ∷ rest) rest) ≤ length (f ∷ fs)
kept_long_one f fs rest true le = omega (arith, le)
kept_long_one f fs rest false le = omega (arith, le)

kept_long : (gone : List ℕ) (fs : List Feature) → length (kept gone fs) ≤ length fs
kept_long gone [] = omega arith
kept_long gone (f ∷ fs) = kept_long_one f fs (kept gone fs) (not (bytes_eq f.id gone)) (kept_long gone fs)

-- ---- one feature takes the place of another

same_id : (g f : Feature) (b : Bool) → bytes_eq f.id g.id ≡ b → (cond b g f).id ≡ f.id
same_id g f true test = sym ((bytes_eq-Decides f.id g.id).0 test)
same_id g f false test = refl

placed_has : (g : Feature) (fs : List Feature) (id : List ℕ) → HasFeature (map (in_place g) fs) id → HasFeature fs id
placed_has g [] id there = there
placed_has g (f ∷ fs) id there = elim (feature_cases (in_place g f) (map (in_place g) fs) id there) [
  | inl same ↦ (f, here f fs, sym (same_id g f (bytes_eq f.id g.id) refl) ∙ same)
  | inr more ↦ one_more f fs id (placed_has g fs id more)
]

placed_differ : (g : Feature) (fs : List Feature) → HaveDifferentIds fs → HaveDifferentIds (map (in_place g) fs)
placed_differ g [] differ = differ_none
placed_differ g (f ∷ fs) differ =
    let P : List ℕ → Type 0 = λ id. ¬ (HasFeature (map (in_place g) fs) id) in
    differ_cons (in_place g f) (map (in_place g) fs)
    (subst P (sym (same_id g f (bytes_eq f.id g.id) refl)) (λ there. differ_first f fs differ (placed_has g fs f.id there)))
    (placed_differ g fs (differ_tail f fs differ))

-- ---- one feature comes

-- an id that one of the features with one more behind them has is that of an old one or of the new one
pub added_cases : (fs : List Feature) (g : Feature) (id : List ℕ) → HasFeature (fs ++ g ∷ []) id → HasFeature fs id ⊎ (g.id ≡ id)
added_cases [] g id there = elim (feature_cases g [] id there) [
  | inl same ↦ inr same
  | inr none ↦ absurd (no_feature id none)
]
added_cases (f ∷ fs) g id there = elim (feature_cases f (fs ++ g ∷ []) id there) [
  | inl same ↦ inl (f, here f fs, same)
  | inr more ↦ elim (added_cases fs g id more) [
    | inl old ↦ inl (one_more f fs id old)
    | inr same ↦ inr same
  ]
]

-- a feature is among more, and so is the last one
pub one_behind : (fs : List Feature) (g : Feature) (id : List ℕ) → HasFeature fs id → HasFeature (fs ++ g ∷ []) id
one_behind fs g id there = (there.0, Contains-append_left fs (g ∷ []) there.0 there.1, there.2)

-- the new feature behind the others has its id among theirs
pub last_one : (fs : List Feature) (g : Feature) (id : List ℕ) → g.id ≡ id → HasFeature (fs ++ g ∷ []) id
last_one fs g id same = (g, Contains-append_right fs (g ∷ []) g (here g []), same)

added_differ : (fs : List Feature) (g : Feature) → ¬ (HasFeature fs g.id) → HaveDifferentIds fs → HaveDifferentIds (fs ++ g ∷ [])
added_differ [] g new differ = differ_cons g [] (no_feature g.id) differ_none
added_differ (f ∷ fs) g new differ =
    differ_cons f (fs ++ g ∷ [])
    (λ there. elim (added_cases fs g f.id there) [
      | inl old ↦ differ_first f fs differ old
      | inr same ↦ new (f, here f fs, sym same)
    ])
    (added_differ fs g (λ old. new (one_more f fs g.id old)) (differ_tail f fs differ))

-- ---- the state after an edit

below_last : (s : State) → s.rev ≤ last_rev → ¬ (s.rev ≡ last_rev) → s.rev + 1 ≤ last_rev
below_last s le not_last = below s.rev last_rev le not_last
  where
    below : (n m : ℕ) → n ≤ m → ¬ (n ≡ m) → n + 1 ≤ m
    below n m le other = omega (arith, le, other)

-- an allowed edit leads from a state that can be reached to another such state, but where the revision is the last one
pub reached : (s : State) (edit : Edit) → IsState s → IsAllowed s.features edit → ¬ (s.rev ≡ last_rev) → IsState (step s edit)
reached s (Add g) state allowed not_last = record {
  own_ids = added_differ s.features g allowed.0 state.own_ids;
  few = (let many = length-append s.features (g ∷ []) in let room = allowed.1 in omega arith);
  revision = below_last s state.revision not_last;
}
reached s (Replace g) state allowed not_last = record {
  own_ids = placed_differ g s.features state.own_ids;
  few = (let many = length-map s.features (in_place g) in let room = state.few in omega arith);
  revision = below_last s state.revision not_last;
}
reached s (Remove id) state allowed not_last = record {
  own_ids = kept_differ id s.features state.own_ids;
  few = (let many = kept_long id s.features in let room = state.few in omega arith);
  revision = below_last s state.revision not_last;
}
reached s (Restyle style) state allowed not_last = record { own_ids = state.own_ids; few = state.few; revision = below_last s state.revision not_last }

-- a feature behind others has an id of its own
pub behind_differs : (fs : List Feature) (f : Feature) (rest : List Feature) → HaveDifferentIds (fs ++ f ∷ rest) → ¬ (HasFeature fs f.id)
behind_differs [] f rest differ there = no_feature f.id there
behind_differs (g ∷ fs) f rest differ there = elim (feature_cases g fs f.id there) [
  | inl same ↦ differ_first g (fs ++ f ∷ rest) differ (f, Contains-append_right fs (f ∷ rest) f (here f rest), sym same)
  | inr more ↦ behind_differs fs f rest (differ_tail g (fs ++ f ∷ rest) differ) more
]

-- the same of a list that is made up of those before the feature, the feature and the rest
pub behind_differs_in : (fs : List Feature) (f : Feature) (rest all : List Feature) → fs ++ f ∷ rest ≡ all → HaveDifferentIds all → ¬ (HasFeature fs f.id)
behind_differs_in fs f rest all is differ = behind_differs fs f rest (subst (λ (l : List Feature). HaveDifferentIds l) (sym is) differ)

-- the feature at a place has another id than those before it
pub new_at : (fs : List Feature) (k : ℕ) (f : Feature) → k < length fs → get_or fs k f ≡ f → HaveDifferentIds fs → ¬ (HasFeature (take k fs) f.id)
new_at fs k f lt is differ there =
    let before : there.1.0 < k = omega (arith, there.1.1, length-take k fs) in
    let j = there.1.0 in
    let found : get_or fs j f ≡ there.0 = get_or_default fs j f there.0 (omega (arith, before, lt)) ∙ sym (get_or-take k fs j there.0 before) ∙ there.1.2 in
    differ j k f before lt (ap (λ (g : Feature). g.id) found ∙ there.2 ∙ sym (ap (λ (g : Feature). g.id) is))
