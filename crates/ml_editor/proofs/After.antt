-- The labels of a map after an edit: those of the features after it.
use Rattle.std.proofs.Common.{◌≡◌, ◌≢◌, ℕ, zero, suc, ◌<◌, ◌≤◌, Bool, true, false, cond, not, List, [], ◌∷◌, ◌++◌, length, get_or}
use Rattle.std.proofs.Common.{filter, map, Contains, Some, None, Result, Ok, Err, ◌⊎◌, inl, inr, refl, sym, ap, subst, ◌∙◌, arith}
use Rattle.std.specs.Prelude.{◌↔◌}
use Rattle.std.specs.List.{AllZip, AllPairs}
use Rattle.std.specs.Str.{bytes_eq}
use Rattle.std.proofs.lemmas.Bool.{true≢false, false≢true}
use Rattle.std.proofs.lemmas.List.Sorted.{Contains-permutation, length_permutation, IsPermutation-sym, IsPermutation-trans}
use Rattle.std.proofs.lemmas.Slice.Eq.{bytes_eq-Decides}
use Rattle.ml_ratio.specs.declared.feature.Feature.{Feature}
use Rattle.ml_cone.specs.Label.{IsLabelList}
use Rattle.ml_cone.specs.declared.label.Label.{Label}
use Rattle.ml_geojson.specs.Map.{HaveDifferentIds}
use Rattle.ml_style.specs.declared.style.Style.{Style}
use Rattle.ml_label.specs.Labelling.{IsLabelling, IsUnlabelled}
use Rattle.ml_label.specs.Labels.{AreLabelsOf, labels_in}
use Rattle.ml_label.specs.declared.reason.Reason.{Reason}
use Rattle.ml_label.specs.declared.reason.Reason.TheVariants.{NoName}
use Rattle.ml_repair.specs.Edit.{IsEdited}
use Rattle.ml_store.specs.Rows.{HasId}
use Rattle.ml_editor.specs.State.{HasFeature, in_place}
use Rattle.ml_editor.specs.Editing.{label_given}
use Rattle.ml_editor.proofs.Same.{Apart, same_elements, here, later, cases}

-- the answer for a feature: its label, or why it has none
abbrev pub Answer : Type 0
Answer = Result Label Reason

come_is : (a : Answer) (l : Label) → label_given a ≡ Some l → a ≡ Ok l
come_is (Ok label) l is = cc
come_is (Err reason) l is = cc

-- no label comes where none is given
pub no_label : (l : Label) → None ≡ Some l → ⊥
no_label l is = cc

-- ---- the labels among answers

answer_here : (a : Answer) (os : List Answer) (l : Label) → a ≡ Ok l → Contains (labels_in (a ∷ os)) l
answer_here a os l is = subst (λ (b : Answer). Contains (labels_in (b ∷ os)) l) (sym is) (here l (labels_in os))

answer_later : (a : Answer) (os : List Answer) (l : Label) → Contains (labels_in os) l → Contains (labels_in (a ∷ os)) l
answer_later (Ok x) os l there = later x l (labels_in os) there
answer_later (Err reason) os l there = there

answer_cases : (a : Answer) (os : List Answer) (l : Label) → Contains (labels_in (a ∷ os)) l → (a ≡ Ok l) ⊎ Contains (labels_in os) l
answer_cases (Ok x) os l there = elim (cases x l (labels_in os) there) [
  | inl same ↦ inl (ap Ok same)
  | inr others ↦ inr others
]
answer_cases (Err reason) os l there = inr there

none_in_no_answers : (l : Label) → Contains (labels_in []) l → ⊥
none_in_no_answers l there = let lt = there.1 in omega arith

module _ (style : Style) where
  -- each feature has its answer
  abbrev Answered : List Feature → List Answer → Type 0
  Answered fs os = AllZip (IsLabelling style) fs os

  from_each : (fs : List Feature) (os : List Answer) → length os ≡ length fs → ((k : ℕ) (f : Feature) (a : Answer) → k < length fs → IsLabelling style (get_or fs k f) (get_or os k a)) → Answered fs os
  from_each [] [] long each = tt
  from_each [] (a ∷ os) long each = absurd (omega (arith, long))
  from_each (f ∷ fs) [] long each = absurd (omega (arith, long))
  from_each (f ∷ fs) (a ∷ os) long each = (each 0 f a (omega arith), from_each fs os (omega (arith, long)) (λ k g b lt. each (suc k) g b (omega (arith, lt))))

  to_each : (fs : List Feature) (os : List Answer) → Answered fs os → (k : ℕ) (f : Feature) (a : Answer) → k < length fs → IsLabelling style (get_or fs k f) (get_or os k a)
  to_each [] [] all k f a lt = absurd (omega (arith, lt))
  to_each [] (b ∷ os) all k f a lt = absurd all
  to_each (g ∷ fs) [] all k f a lt = absurd all
  to_each (g ∷ fs) (b ∷ os) all zero f a lt = all.0
  to_each (g ∷ fs) (b ∷ os) all (suc k) f a lt = to_each fs os all.1 k f a (omega (arith, lt))

  as_long : (fs : List Feature) (os : List Answer) → Answered fs os → length os ≡ length fs
  as_long [] [] all = refl
  as_long [] (b ∷ os) all = absurd all
  as_long (g ∷ fs) [] all = absurd all
  as_long (g ∷ fs) (b ∷ os) all = ap suc (as_long fs os all.1)

  -- a label has the id of its feature
  own_id : (f : Feature) (a : Answer) (l : Label) → IsLabelling style f a → a ≡ Ok l → l.order.id ≡ f.id
  own_id f a l made is = let P : Answer → Type 0 = λ b. IsLabelling style f b in (subst P is made).ordered.id_is

  -- a label is that of one of the features
  of_feature : (fs : List Feature) (os : List Answer) → Answered fs os → (l : Label) → Contains (labels_in os) l → HasFeature fs l.order.id
  of_feature [] [] all l there = absurd (none_in_no_answers l there)
  of_feature [] (b ∷ os) all l there = absurd all
  of_feature (g ∷ fs) [] all l there = absurd all
  of_feature (g ∷ fs) (a ∷ os) all l there = elim (answer_cases a os l there) [
    | inl is ↦ (g, here g fs, sym (own_id g a l all.0 is))
    | inr others ↦ let one = of_feature fs os all.1 l others in (one.0, later g one.0 fs one.1, one.2)
  ]

  -- ---- labels do not repeat

  tail_differs : (f : Feature) (fs : List Feature) → HaveDifferentIds (f ∷ fs) → HaveDifferentIds fs
  tail_differs f fs differ i j d below lt = differ (suc i) (suc j) d (omega (arith, below)) (omega (arith, lt))

  first_differs : (f : Feature) (fs : List Feature) → HaveDifferentIds (f ∷ fs) → ¬ (HasFeature fs f.id)
  first_differs f fs differ there =
      let lt = there.1.1 in
      differ 0 (suc there.1.0) there.0 (omega arith) (omega arith) (sym (ap (λ (g : Feature). g.id) there.1.2 ∙ there.2))

  labels_apart : (fs : List Feature) (os : List Answer) → Answered fs os → HaveDifferentIds fs → Apart (labels_in os)
  labels_apart [] [] all differ = tt
  labels_apart [] (b ∷ os) all differ = absurd all
  labels_apart (g ∷ fs) [] all differ = absurd all
  labels_apart (g ∷ fs) (Err reason ∷ os) all differ = labels_apart fs os all.1 (tail_differs g fs differ)
  labels_apart (g ∷ fs) (Ok x ∷ os) all differ =
      let same : x.order.id ≡ g.id = own_id g (Ok x) x all.0 refl in
      let P : List ℕ → Type 0 = λ id. HasFeature fs id in
      ((λ there. first_differs g fs differ (subst P same (of_feature fs os all.1 x there))), labels_apart fs os all.1 (tail_differs g fs differ))

  list_apart : (ls : List Label) → IsLabelList ls → Apart ls
  list_apart [] ordered = tt
  list_apart (x ∷ ls) ordered = (
    (λ there. let lt = there.1 in (ordered 0 (suc there.0) x (omega arith) (omega arith)).1 (ap (λ (l : Label). l.order.id) (sym there.2))),
    list_apart ls (λ j i d below lt. ordered (suc j) (suc i) d (omega (arith, below)) (omega (arith, lt))),
  )

  -- labels in priority order that are those among the answers of features are the labels of the features
  pub labels_of_answers : (fs : List Feature) (os : List Answer) (after : List Label) → Answered fs os → HaveDifferentIds fs → IsLabelList after →
      ((l : Label) → Contains (labels_in os) l → Contains after l) → ((l : Label) → Contains after l → Contains (labels_in os) l) → AreLabelsOf style fs after
  labels_of_answers fs os after all differ ordered forth back = record {
    unsorted = labels_in os;
    made = record { answers = os; answered = record { one_each = as_long fs os all; each = to_each fs os all }; labels_are = refl };
    same = same_elements (labels_in os) after (labels_apart fs os all differ) (list_apart after ordered) forth back;
    ordered = ordered;
  }

  -- ---- features without a label

  ok_in : (os : List Answer) (k : ℕ) (a : Answer) (l : Label) → k < length os → get_or os k a ≡ Ok l → Contains (labels_in os) l
  ok_in [] k a l lt is = absurd (omega (arith, lt))
  ok_in (o ∷ os) zero a l lt is = answer_here o os l is
  ok_in (o ∷ os) (suc k) a l lt is = answer_later o os l (ok_in os k a l (omega (arith, lt)) is)

  no_answer : (f : Feature) (os : List Answer) (k : ℕ) (d a : Answer) → k < length os → get_or os k d ≡ a →
      IsLabelling style f a → ((l : Label) → Contains (labels_in os) l → l.order.id ≢ f.id) → IsUnlabelled style f
  no_answer f os k d (Ok l) lt is made none = absurd (none l (ok_in os k d l lt is) made.ordered.id_is)
  no_answer f os k d (Err reason) lt is made none = (reason, made)

  -- ---- how many labels there are

  no_more : (os : List Answer) → length (labels_in os) ≤ length os
  no_more [] = omega arith
  no_more (Ok x ∷ os) = omega (arith, no_more os)
  no_more (Err reason ∷ os) = omega (arith, no_more os)

  -- where a feature has no label, there are fewer
  fewer : (fs : List Feature) (os : List Answer) → Answered fs os → (id : List ℕ) → HasFeature fs id → ((l : Label) → Contains (labels_in os) l → l.order.id ≢ id) → length (labels_in os) < length os
  fewer [] os all id there none = let lt = there.1.1 in absurd (omega arith)
  fewer (f ∷ fs) [] all id there none = absurd all
  fewer (f ∷ fs) (Err reason ∷ os) all id there none = omega (arith, no_more os)
  fewer (f ∷ fs) (Ok x ∷ os) all id there none = elim (cases f there.0 fs there.1) [
    | inl same ↦ absurd (none x (here x (labels_in os)) (own_id f (Ok x) x all.0 refl ∙ ap (λ (g : Feature). g.id) same ∙ there.2))
    | inr others ↦ omega (arith, fewer fs os all.1 id (there.0, others, there.2) (λ l more. none l (later x l (labels_in os) more)))
  ]

  -- ---- one feature goes

  -- the answers for the features but that with the id
  abbrev out : List ℕ → List Feature → List Answer → List Answer
  out id [] os = []
  out id (f ∷ fs) [] = []
  out id (f ∷ fs) (a ∷ os) = cond (not (bytes_eq f.id id)) (a ∷ out id fs os) (out id fs os)

  -- the features but that with the id
  abbrev kept : List ℕ → List Feature → List Feature
  kept id fs = filter (λ (f : Feature). not (bytes_eq f.id id)) fs

  out_one : (f : Feature) (fs : List Feature) (a : Answer) (os : List Answer) (b : Bool) → IsLabelling style f a → Answered fs os → Answered (cond b (f ∷ fs) fs) (cond b (a ∷ os) os)
  out_one f fs a os true one others = (one, others)
  out_one f fs a os false one others = others

  out_answered : (id : List ℕ) (fs : List Feature) (os : List Answer) → Answered fs os → Answered (kept id fs) (out id fs os)
  out_answered id [] [] all = tt
  out_answered id [] (a ∷ os) all = absurd all
  out_answered id (f ∷ fs) [] all = absurd all
  out_answered id (f ∷ fs) (a ∷ os) all = out_one f (kept id fs) a (out id fs os) (not (bytes_eq f.id id)) all.0 (out_answered id fs os all.1)

  -- a label of the others
  abbrev IsOther : List ℕ → List Answer → Label → Type 0
  IsOther id os l = Contains (labels_in os) l × (l.order.id ≢ id)

  out_one_forth : (id : List ℕ) (f : Feature) (a : Answer) (os rest : List Answer) (b : Bool) (l : Label) → bytes_eq f.id id ≡ b → IsLabelling style f a →
      (Contains (labels_in rest) l → IsOther id os l) → Contains (labels_in (cond (not b) (a ∷ rest) rest)) l → IsOther id (a ∷ os) l
  out_one_forth id f a os rest true l test one others there = let o = others there in (answer_later a os l o.0, o.1)
  out_one_forth id f a os rest false l test one others there = elim (answer_cases a rest l there) [
    | inl is ↦ (answer_here a os l is, (λ same. true≢false (sym ((bytes_eq-Decides f.id id).1 (sym (own_id f a l one is) ∙ same)) ∙ test)))
    | inr more ↦ let o = others more in (answer_later a os l o.0, o.1)
  ]

  out_forth : (id : List ℕ) (fs : List Feature) (os : List Answer) → Answered fs os → (l : Label) → Contains (labels_in (out id fs os)) l → IsOther id os l
  out_forth id [] [] all l there = absurd (none_in_no_answers l there)
  out_forth id [] (a ∷ os) all l there = absurd all
  out_forth id (f ∷ fs) [] all l there = absurd all
  out_forth id (f ∷ fs) (a ∷ os) all l there = out_one_forth id f a os (out id fs os) (bytes_eq f.id id) l refl all.0 (out_forth id fs os all.1 l) there

  out_one_back : (id : List ℕ) (f : Feature) (a : Answer) (os rest : List Answer) (b : Bool) (l : Label) → bytes_eq f.id id ≡ b → IsLabelling style f a →
      (IsOther id os l → Contains (labels_in rest) l) → IsOther id (a ∷ os) l → Contains (labels_in (cond (not b) (a ∷ rest) rest)) l
  out_one_back id f a os rest true l test one others o = elim (answer_cases a os l o.0) [
    | inl is ↦ absurd (o.1 (own_id f a l one is ∙ (bytes_eq-Decides f.id id).0 test))
    | inr more ↦ others (more, o.1)
  ]
  out_one_back id f a os rest false l test one others o = elim (answer_cases a os l o.0) [
    | inl is ↦ answer_here a rest l is
    | inr more ↦ answer_later a rest l (others (more, o.1))
  ]

  out_back : (id : List ℕ) (fs : List Feature) (os : List Answer) → Answered fs os → (l : Label) → IsOther id os l → Contains (labels_in (out id fs os)) l
  out_back id [] [] all l o = o.0
  out_back id [] (a ∷ os) all l o = absurd all
  out_back id (f ∷ fs) [] all l o = absurd all
  out_back id (f ∷ fs) (a ∷ os) all l o = out_one_back id f a os (out id fs os) (bytes_eq f.id id) l refl all.0 (out_back id fs os all.1 l) o

  -- ---- one feature takes the place of another

  module _ (g : Feature) (c : Answer) (new : IsLabelling style g c) where
    -- the answers, with that for the new feature in the place of that for the one with its id
    abbrev put : List Feature → List Answer → List Answer
    put [] os = []
    put (f ∷ fs) [] = []
    put (f ∷ fs) (a ∷ os) = cond (bytes_eq f.id g.id) c a ∷ put fs os

    put_one : (f : Feature) (a : Answer) (b : Bool) → IsLabelling style f a → IsLabelling style (cond b g f) (cond b c a)
    put_one f a true one = new
    put_one f a false one = one

    put_answered : (fs : List Feature) (os : List Answer) → Answered fs os → Answered (map (in_place g) fs) (put fs os)
    put_answered [] [] all = tt
    put_answered [] (a ∷ os) all = absurd all
    put_answered (f ∷ fs) [] all = absurd all
    put_answered (f ∷ fs) (a ∷ os) all = (put_one f a (bytes_eq f.id g.id) all.0, put_answered fs os all.1)

    -- a label of the others, or the new one
    abbrev IsOtherOrNew : List Answer → Label → Type 0
    IsOtherOrNew os l = IsOther g.id os l ⊎ (c ≡ Ok l)

    more : (a : Answer) (os : List Answer) (l : Label) → IsOtherOrNew os l → IsOtherOrNew (a ∷ os) l
    more a os l (inl o) = inl (answer_later a os l o.0, o.1)
    more a os l (inr is) = inr is

    put_one_forth : (f : Feature) (a : Answer) (os rest : List Answer) (b : Bool) (l : Label) → bytes_eq f.id g.id ≡ b → IsLabelling style f a →
        (Contains (labels_in rest) l → IsOtherOrNew os l) → Contains (labels_in (cond b c a ∷ rest)) l → IsOtherOrNew (a ∷ os) l
    put_one_forth f a os rest true l test one others there = elim (answer_cases c rest l there) [
      | inl is ↦ inr is
      | inr later' ↦ more a os l (others later')
    ]
    put_one_forth f a os rest false l test one others there = elim (answer_cases a rest l there) [
      | inl is ↦ inl (answer_here a os l is, (λ same. true≢false (sym ((bytes_eq-Decides f.id g.id).1 (sym (own_id f a l one is) ∙ same)) ∙ test)))
      | inr later' ↦ more a os l (others later')
    ]

    put_forth : (fs : List Feature) (os : List Answer) → Answered fs os → (l : Label) → Contains (labels_in (put fs os)) l → IsOtherOrNew os l
    put_forth [] [] all l there = absurd (none_in_no_answers l there)
    put_forth [] (a ∷ os) all l there = absurd all
    put_forth (f ∷ fs) [] all l there = absurd all
    put_forth (f ∷ fs) (a ∷ os) all l there = put_one_forth f a os (put fs os) (bytes_eq f.id g.id) l refl all.0 (put_forth fs os all.1 l) there

    put_one_back : (f : Feature) (a : Answer) (os rest : List Answer) (b : Bool) (l : Label) → bytes_eq f.id g.id ≡ b → IsLabelling style f a →
        (IsOther g.id os l → Contains (labels_in rest) l) → IsOther g.id (a ∷ os) l → Contains (labels_in (cond b c a ∷ rest)) l
    put_one_back f a os rest true l test one others o = elim (answer_cases a os l o.0) [
      | inl is ↦ absurd (o.1 (own_id f a l one is ∙ (bytes_eq-Decides f.id g.id).0 test))
      | inr later' ↦ answer_later c rest l (others (later', o.1))
    ]
    put_one_back f a os rest false l test one others o = elim (answer_cases a os l o.0) [
      | inl is ↦ answer_here a rest l is
      | inr later' ↦ answer_later a rest l (others (later', o.1))
    ]

    put_back : (fs : List Feature) (os : List Answer) → Answered fs os → (l : Label) → IsOther g.id os l → Contains (labels_in (put fs os)) l
    put_back [] [] all l o = o.0
    put_back [] (a ∷ os) all l o = absurd all
    put_back (f ∷ fs) [] all l o = absurd all
    put_back (f ∷ fs) (a ∷ os) all l o = put_one_back f a os (put fs os) (bytes_eq f.id g.id) l refl all.0 (put_back fs os all.1 l) o

    -- the new label is there, where a feature had the id
    put_one_new : (f : Feature) (a : Answer) (rest : List Answer) (b : Bool) (l : Label) → b ≡ true → c ≡ Ok l → Contains (labels_in (cond b c a ∷ rest)) l
    put_one_new f a rest true l test is = answer_here c rest l is
    put_one_new f a rest false l test is = absurd (false≢true test)

    put_at : (fs : List Feature) (os : List Answer) → Answered fs os → (f : Feature) (k : ℕ) → k < length fs →
        get_or fs k f ≡ f → f.id ≡ g.id → (l : Label) → c ≡ Ok l → Contains (labels_in (put fs os)) l
    put_at [] os all f k lt at same l is = absurd (omega (arith, lt))
    put_at (h ∷ fs) [] all f k lt at same l is = absurd all
    put_at (h ∷ fs) (a ∷ os) all f zero lt at same l is = put_one_new h a (put fs os) (bytes_eq h.id g.id) l ((bytes_eq-Decides h.id g.id).1 (ap (λ (x : Feature). x.id) at ∙ same)) is
    put_at (h ∷ fs) (a ∷ os) all f (suc k) lt at same l is = answer_later (cond (bytes_eq h.id g.id) c a) (put fs os) l (put_at fs os all.1 f k (omega (arith, lt)) at same l is)

    -- ---- one feature comes

    add_answered : (fs : List Feature) (os : List Answer) → Answered fs os → Answered (fs ++ g ∷ []) (os ++ c ∷ [])
    add_answered [] [] all = (new, tt)
    add_answered [] (a ∷ os) all = absurd all
    add_answered (f ∷ fs) [] all = absurd all
    add_answered (f ∷ fs) (a ∷ os) all = (all.0, add_answered fs os all.1)

    add_forth : (os : List Answer) (l : Label) → Contains (labels_in (os ++ c ∷ [])) l → Contains (labels_in os) l ⊎ (c ≡ Ok l)
    add_forth [] l there = elim (answer_cases c [] l there) [
      | inl is ↦ inr is
      | inr none ↦ absurd (none_in_no_answers l none)
    ]
    add_forth (a ∷ os) l there = elim (answer_cases a (os ++ c ∷ []) l there) [
      | inl is ↦ inl (answer_here a os l is)
      | inr others ↦ elim (add_forth os l others) [
        | inl old ↦ inl (answer_later a os l old)
        | inr is ↦ inr is
      ]
    ]

    add_old : (os : List Answer) (l : Label) → Contains (labels_in os) l → Contains (labels_in (os ++ c ∷ [])) l
    add_old [] l there = absurd (none_in_no_answers l there)
    add_old (a ∷ os) l there = elim (answer_cases a os l there) [
      | inl is ↦ answer_here a (os ++ c ∷ []) l is
      | inr others ↦ answer_later a (os ++ c ∷ []) l (add_old os l others)
    ]

    add_new : (os : List Answer) (l : Label) → c ≡ Ok l → Contains (labels_in (os ++ c ∷ [])) l
    add_new [] l is = answer_here c [] l is
    add_new (a ∷ os) l is = answer_later a (os ++ c ∷ []) l (add_new os l is)

  -- ---- the labels after each edit

  module _ (fs : List Feature) (before after : List Label) (labels : AreLabelsOf style fs before) (ordered : IsLabelList after) where
    abbrev the_answers : List Answer
    the_answers = labels.made.answers

    all_answered : Answered fs the_answers
    all_answered = from_each fs the_answers labels.made.answered.one_each labels.made.answered.each

    to_before : (l : Label) → Contains (labels_in the_answers) l → Contains before l
    to_before l there = Contains-permutation labels.unsorted before l labels.same (subst (λ (ls : List Label). Contains ls l) (sym labels.made.labels_are) there)

    from_before : (l : Label) → Contains before l → Contains (labels_in the_answers) l
    from_before l there = subst (λ (ls : List Label). Contains ls l) labels.made.labels_are (Contains-permutation before labels.unsorted l (IsPermutation-sym labels.unsorted before labels.same) there)

    -- a label has an id that a feature has
    pub label_of_feature : (l : Label) → Contains before l → HasFeature fs l.order.id
    label_of_feature l there = of_feature fs the_answers all_answered l (from_before l there)

    -- a feature whose id no label has has no label
    pub unlabelled : (f : Feature) → Contains fs f → ¬ (HasId before f.id) → IsUnlabelled style f
    unlabelled f there none =
        let d : Answer = Err NoName in
        let lt : there.0 < length the_answers = omega (arith, there.1, labels.made.answered.one_each) in
        let made = subst (λ (g : Feature). IsLabelling style g (get_or the_answers there.0 d)) there.2 (labels.made.answered.each there.0 f d there.1) in
        no_answer f the_answers there.0 d (get_or the_answers there.0 d) lt refl made (λ l more same. none (l, to_before l more, same))

    -- there are no more labels than features
    pub no_more_labels : length before ≤ length fs
    no_more_labels = omega (arith, length_permutation labels.unsorted before labels.same, ap length labels.made.labels_are, no_more the_answers, labels.made.answered.one_each)

    -- and fewer where a feature has none
    pub fewer_labels : (id : List ℕ) → HasFeature fs id → ¬ (HasId before id) → length before < length fs
    fewer_labels id there none =
        let less : length (labels_in the_answers) < length the_answers = fewer fs the_answers all_answered id there (λ l more same. none (l, to_before l more, same)) in
        omega (arith, less, length_permutation labels.unsorted before labels.same, ap length labels.made.labels_are, labels.made.answered.one_each)

    -- where any label with an id went and none came, the labels are those of the features but that with the id
    pub after_remove : (id : List ℕ) → IsEdited id None before after → HaveDifferentIds (kept id fs) → AreLabelsOf style (kept id fs) after
    after_remove id edited differ =
        labels_of_answers (kept id fs) (out id fs the_answers) after (out_answered id fs the_answers all_answered) differ ordered
        (λ l there. let o = out_forth id fs the_answers all_answered l there in (edited l).1 (inl (to_before l o.0, o.1)))
        (λ l there. elim ((edited l).0 there) [
          | inl old ↦ out_back id fs the_answers all_answered l (from_before l old.0, old.1)
          | inr none ↦ absurd (no_label l none)
        ])

    module _ (g : Feature) (c : Answer) (new : IsLabelling style g c) (edited : IsEdited g.id (label_given c) before after) where
      -- where a feature's label, if any, came for any with its id, the labels are those with the feature in the place of that with its id
      pub after_replace : HasFeature fs g.id → HaveDifferentIds (map (in_place g) fs) → AreLabelsOf style (map (in_place g) fs) after
      after_replace known differ =
          labels_of_answers (map (in_place g) fs) (put g c new fs the_answers) after (put_answered g c new fs the_answers all_answered) differ ordered
          (λ l there. elim (put_forth g c new fs the_answers all_answered l there) [
            | inl o ↦ (edited l).1 (inl (to_before l o.0, o.1))
            | inr is ↦ (edited l).1 (inr (ap label_given is))
          ])
          (λ l there. elim ((edited l).0 there) [
            | inl old ↦ put_back g c new fs the_answers all_answered l (from_before l old.0, old.1)
            | inr is ↦ put_at g c new fs the_answers all_answered known.0 known.1.0 known.1.1 known.1.2 known.2 l (come_is c l is)
          ])

      -- and where no feature had its id, the labels are those of the features with the new one behind them
      pub after_add : ¬ (HasFeature fs g.id) → HaveDifferentIds (fs ++ g ∷ []) → AreLabelsOf style (fs ++ g ∷ []) after
      after_add unknown differ =
          labels_of_answers (fs ++ g ∷ []) (the_answers ++ c ∷ []) after (add_answered g c new fs the_answers all_answered) differ ordered
          (λ l there. elim (add_forth g c new the_answers l there) [
            | inl old ↦ (edited l).1 (inl (to_before l old, (λ same. let P : List ℕ → Type 0 = λ id. HasFeature fs id in unknown (subst P same (of_feature fs the_answers all_answered l old)))))
            | inr is ↦ (edited l).1 (inr (ap label_given is))
          ])
          (λ l there. elim ((edited l).0 there) [
            | inl old ↦ add_old g c new the_answers l (from_before l old.0)
            | inr is ↦ add_new g c new the_answers l (come_is c l is)
          ])

-- labels in priority order that have the labels of a map are its labels
pub labels_again : (style : Style) (fs : List Feature) (labels others : List Label) → AreLabelsOf style fs labels →
    IsLabelList others → ((l : Label) → Contains others l ↔ Contains labels l) → AreLabelsOf style fs others
labels_again style fs labels others of ordered same = record {
  unsorted = of.unsorted;
  made = of.made;
  same = IsPermutation-trans of.unsorted labels others of.same (same_elements labels others (list_apart style labels of.ordered) (list_apart style others ordered) (λ l. (same l).1) (λ l. (same l).0));
  ordered = ordered;
}

-- labels in priority order have different ids
pub labels_differ : (labels : List Label) → IsLabelList labels → AllPairs (λ (one other : Label). one.order.id ≢ other.order.id) labels
labels_differ labels ordered i j d below lt = (ordered i j d below lt).1
