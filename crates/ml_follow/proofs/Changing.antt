-- What changes between two lists of labels.
use Rattle.std.proofs.Common.{◌≡◌, ◌≢◌, ℕ, ◌+◌, ◌<◌, ◌≤◌, List, [], ◌∷◌, ◌++◌, length, get_or, take, map, Contains, Option}
use Rattle.std.proofs.Common.{Some, None, ◌⊎◌, inl, inr, refl, sym, ap, subst, ◌∙◌, arith, length-append, length-take}
use Rattle.std.specs.Prelude.{◌↔◌}
use Rattle.std.specs.Option.{option_map}
use Rattle.std.specs.Ordering.{nat_cmp}
use Rattle.std.specs.Cmp.Lexicographic.{slice_cmp}
use Rattle.std.specs.List.Sorted.{IsStrictlySortedBy}
use Rattle.std.proofs.Math.ListN.{get_or-append}
use Rattle.std.proofs.lemmas.Bool.{cases_lt}
use Rattle.std.proofs.lemmas.List.{get_or_push, take_more, get_or-take}
use Rattle.std.proofs.lemmas.List.Elements.{Contains-append_left, Contains-push, Contains-push_cases, Contains-get_or}
use Rattle.std.proofs.lemmas.List.Quantifiers.{all_pairs_push}
use Rattle.ml_ratio.proofs.lemmas.Lists.{pick}
use Rattle.ml_cone.specs.Label.{IsLabelList}
use Rattle.ml_cone.specs.Places.{IsNoId}
use Rattle.ml_cone.specs.Slots.{no_slot}
use Rattle.ml_cone.specs.declared.label.Label.{Label}
use Rattle.ml_cone.specs.declared.slot.Slot.{Slot}
use Rattle.ml_watch.specs.declared.change.Change.{Change}
use Rattle.ml_watch.specs.ById.{HaveOwnIds}
use Rattle.ml_follow.specs.Changes.{Unplaced, unplaced, Ranged, HasRanged, IsStateOf, AreChanges, IsListed, IsChangeIn, IsChangeOf, IsJoinedBy, IsTakenIn, IsTakenIfGone, HasId, AreChangesAmong}
use Rattle.ml_follow.specs.declared.changes.Listed.{Listed}

-- ---- the label with an id

module _ (labels : List Label) (slots : List Slot) (ordered : IsLabelList labels) where
  its_id : (id : List ℕ) (a : Ranged) → (x : HasRanged labels slots id a) → (d : Label) → (get_or labels x.place d).order.id ≡ id
  its_id id a x d = ap (λ (u : Unplaced). u.id) (x.its_label d) ∙ x.its_id

  not_before : (id : List ℕ) (a b : Ranged) → (x : HasRanged labels slots id a) → (y : HasRanged labels slots id b) → x.place < y.place → ⊥
  not_before id a b x y below =
      let d = pick labels y.place y.is_place in
      (ordered x.place y.place d below y.is_place).1 (its_id id a x d ∙ sym (its_id id b y d))

  same_place : (id : List ℕ) (a b : Ranged) → (x : HasRanged labels slots id a) → (y : HasRanged labels slots id b) → x.place ≡ y.place
  same_place id a b x y = elim (cases_lt x.place y.place) [
    | inl below ↦ absurd (not_before id a b x y below)
    | inr above ↦ elim (cases_lt y.place x.place) [
      | inl below ↦ absurd (not_before id b a y x below)
      | inr other ↦ both x.place y.place above other
    ]
  ]
    where
      both : (n m : ℕ) → m ≤ n → n ≤ m → n ≡ m
      both n m p q = omega (arith, p, q)

  same_ranged : (id : List ℕ) (a b : Ranged) → HasRanged labels slots id a → HasRanged labels slots id b → a ≡ b
  same_ranged id a b x y =
      let d = pick labels x.place x.is_place in
      let place = same_place id a b x y in
      let label : a.label ≡ b.label = sym (x.its_label d) ∙ ap (λ k. unplaced (get_or labels k d)) place ∙ y.its_label d in
      let span : a.span ≡ b.span = x.its_span ∙ (λ i. record { min = (label i).min; until = (get_or slots (place i) no_slot).until }) ∙ sym y.its_span in
      (λ i. record { label = label i; span = span i })

  absent_or_there : (id : List ℕ) (a : Ranged) → IsNoId labels id → HasRanged labels slots id a → ⊥
  absent_or_there id a absent x = absent x.place (x.is_place, its_id id a x)

  -- an id has one label with one active range, or none: two answers for one id are the same
  pub same_state : (id : List ℕ) (was is : Option Ranged) → IsStateOf labels slots id was → IsStateOf labels slots id is → was ≡ is
  same_state id None None x y = refl
  same_state id None (Some b) x y = absurd (absent_or_there id b x y)
  same_state id (Some a) None x y = absurd (absent_or_there id a y x)
  same_state id (Some a) (Some b) x y = ap Some (same_ranged id a b x y)

-- ---- the change of an id

module _ (old new : Listed) (listed : IsListed old) (listed_too : IsListed new) (id : List ℕ) (was is : Option Ranged)
    (before : IsStateOf old.labels.now old.slots.now id was) (after : IsStateOf new.labels.now new.slots.now id is) where
  was_only : (c : Change) → (h : IsChangeIn old new c) → c.id ≡ id → h.was ≡ was
  was_only c h same =
      let P : List ℕ → Type 0 = λ i. IsStateOf old.labels.now old.slots.now i h.was in
      same_state old.labels.now old.slots.now listed.ordered id h.was was (subst P same h.state_before) before

  is_only : (c : Change) → (h : IsChangeIn old new c) → c.id ≡ id → h.is ≡ is
  is_only c h same =
      let P : List ℕ → Type 0 = λ i. IsStateOf new.labels.now new.slots.now i h.is in
      same_state new.labels.now new.slots.now listed_too.ordered id h.is is (subst P same h.state_after) after

  -- an id that has the same label and active range in both lists has no change
  pub no_change : was ≡ is → IsChangeOf old new id None
  no_change same c = ((λ e. absurd cc), (λ h. absurd (h.0.differ (was_only c h.0 h.1 ∙ same ∙ sym (is_only c h.0 h.1)))))

  module _ (differ : was ≢ is) (c : Change) (own : c.id ≡ id) (span_before : c.before ≡ option_map (λ (one : Ranged). one.span) was)
      (span_after : c.after ≡ option_map (λ (one : Ranged). one.span) is) where
    changes : IsChangeIn old new c
    changes =
        let P : List ℕ → Type 0 = λ i. IsStateOf old.labels.now old.slots.now i was in
        let Q : List ℕ → Type 0 = λ i. IsStateOf new.labels.now new.slots.now i is in
        record { was = was; is = is; state_before = subst P (sym own) before; state_after = subst Q (sym own) after; differ = differ; span_before = span_before; span_after = span_after }

    the_same : (other : Change) → IsChangeIn old new other → other.id ≡ id → c ≡ other
    the_same other h same =
        let ids : c.id ≡ other.id = own ∙ sym same in
        let befores : c.before ≡ other.before = span_before ∙ ap (option_map (λ (one : Ranged). one.span)) (sym (was_only other h same)) ∙ sym h.span_before in
        let afters : c.after ≡ other.after = span_after ∙ ap (option_map (λ (one : Ranged). one.span)) (sym (is_only other h same)) ∙ sym h.span_after in
        (λ i. record { id = ids i; before = befores i; after = afters i })

    -- an id whose label or active range differs has one change, that from the old active range to the new one
    pub one_change : IsChangeOf old new id (Some c)
    one_change other = (
      (λ e. let same : c ≡ other = cc in (subst (IsChangeIn old new) same changes, sym (ap (λ (x : Change). x.id) same) ∙ own)),
      (λ h. ap Some (the_same other h.0 h.1)),
    )

-- ---- the changes of many ids

module _ (old new : Listed) where
  -- where a condition holds of no id, there are no changes among those that it holds of
  pub none_among : (P : List ℕ → Type 0) → ((id : List ℕ) → ¬ (P id)) → AreChangesAmong old new P []
  none_among P none = record {
    are = (λ c. ((λ h. let lt = h.1 in absurd (omega arith)), (λ h. absurd (none c.id h.1))));
    own = (λ i j d below within. absurd (omega (arith, within)));
  }

  -- two conditions that hold of the same ids have the same changes
  pub same_among : (P Q : List ℕ → Type 0) (some : List Change) → ((id : List ℕ) → P id → Q id) → ((id : List ℕ) → Q id → P id) → AreChangesAmong old new P some → AreChangesAmong old new Q some
  same_among P Q some forth back at = record {
    are = (λ c. ((λ h. let x = (at.are c).0 h in (x.0, forth c.id x.1)), (λ h. (at.are c).1 (h.0, back c.id h.1))));
    own = at.own;
  }

  module _ (P : List ℕ → Type 0) (id : List ℕ) where
    -- the ids so far, and this one
    Or : List ℕ → Type 0
    Or x = P x ⊎ (x ≡ id)

    more_are : (change : Option Change) (before after : List Change) → AreChangesAmong old new P before → IsChangeOf old new id change →
        IsJoinedBy change before after → (c : Change) → Contains after c ↔ (IsChangeIn old new c × (P c.id ⊎ (c.id ≡ id)))
    more_are None before after at of joined c = rw joined (
      (λ h. let x = (at.are c).0 h in (x.0, inl x.1)),
      (λ h. elim h.1 [
        | inl known ↦ (at.are c).1 (h.0, known)
        | inr last ↦ absurd (let e : None ≡ Some c = (of c).1 (h.0, last) in cc)
      ]),
    )
    more_are (Some x) before after at of joined c = rw joined (
      (λ h. elim (Contains-push_cases before x c h) [
        | inl more ↦ let y = (at.are c).0 more in (y.0, inl y.1)
        | inr same ↦ let y = (of c).0 (ap Some same) in (y.0, inr y.1)
      ]),
      (λ h. elim h.1 [
        | inl known ↦ Contains-append_left before (x ∷ []) c ((at.are c).1 (h.0, known))
        | inr last ↦ let e : Some x ≡ Some c = (of c).1 (h.0, last) in let same : x ≡ c = cc in subst (Contains (before ++ x ∷ [])) same (Contains-push before x)
      ]),
    )

    more_own : (change : Option Change) (before after : List Change) → ¬ (P id) → AreChangesAmong old new P before → IsChangeOf old new id change → IsJoinedBy change before after → HaveOwnIds after
    more_own None before after unknown at of joined = rw joined at.own
    more_own (Some x) before after unknown at of joined = rw joined (all_pairs_push (λ (a : Change) (b : Change). a.id ≢ b.id) before x at.own (λ k d lt same.
        let own : x.id ≡ id = ((of x).0 refl).1 in
        unknown (subst P (same ∙ own) ((at.are (get_or before k d)).0 (Contains-get_or before k d lt)).1)))

    -- with one more id, which was not among the others, its change comes in behind theirs
    pub more_among : (before after : List Change) → ¬ (P id) → AreChangesAmong old new P before → IsTakenIn old new id before after → AreChangesAmong old new (λ x. P x ⊎ (x ≡ id)) after
    more_among before after unknown at taken = record {
      are = more_are taken.0 before after at taken.1 taken.2;
      own = more_own taken.0 before after unknown at taken.1 taken.2;
    }

-- ---- the ids of the first labels

no_ids : (id : List ℕ) → ¬ (HasId [] id)
no_ids id h = let lt : h.0 < 0 = h.1.0 in omega (arith, lt)

-- an id of the labels so far is one of those with a further label behind them
pub has_front : (labels : List Label) (a : Label) (id : List ℕ) → HasId labels id → HasId (labels ++ a ∷ []) id
has_front labels a id h =
    let n = length-append labels (a ∷ []) in
    (h.0, (omega (arith, h.1.0), λ d. ap (λ (l : Label). l.order.id) (get_or-append labels (a ∷ []) d h.0 h.1.0) ∙ h.1.1 d))

-- the id of the label that comes in behind is one of the longer list
pub has_last : (labels : List Label) (a : Label) (id : List ℕ) → id ≡ a.order.id → HasId (labels ++ a ∷ []) id
has_last labels a id same =
    let n = length-append labels (a ∷ []) in
    (length labels, (omega arith, λ d. ap (λ (l : Label). l.order.id) (get_or_push labels a d (length labels) refl) ∙ sym same))

-- an id of the longer list is that of a label before the last, or the last one's
pub has_cases : (labels : List Label) (a : Label) (id : List ℕ) → HasId (labels ++ a ∷ []) id → HasId labels id ⊎ (id ≡ a.order.id)
has_cases labels a id h = elim (cases_lt h.0 (length labels)) [
  | inl less ↦ inl (h.0, (less, λ d. ap (λ (l : Label). l.order.id) (sym (get_or-append labels (a ∷ []) d h.0 less)) ∙ h.1.1 d))
  | inr more ↦
      let n = length-append labels (a ∷ []) in
      let same : length labels ≡ h.0 = omega (arith, h.1.0) in
      inr (sym (ap (λ (l : Label). l.order.id) (sym (get_or_push labels a a h.0 same)) ∙ h.1.1 a))
]

-- no label has the id of a later one
new_id : (labels : List Label) (k : ℕ) (a : Label) → IsLabelList labels → k < length labels → get_or labels k a ≡ a → ¬ (HasId (take k labels) a.order.id)
new_id labels k a ordered lt is h =
    let n = length-take k labels in
    let below : h.0 < k = omega (arith, h.1.0) in
    let there : (get_or labels h.0 a).order.id ≡ a.order.id = ap (λ (l : Label). l.order.id) (sym (get_or-take k labels h.0 a below)) ∙ h.1.1 a in
    (ordered h.0 k a below lt).1 (there ∙ sym (ap (λ (l : Label). l.order.id) is))

-- ---- the changes of the new list's ids

module _ (old new : Listed) (listed : IsListed new) where
  -- before the first label of the new list no id has been asked for, so there are no changes
  pub new_start : AreChangesAmong old new (HasId (take 0 new.labels.now)) []
  new_start = none_among old new (HasId []) no_ids

  -- no label before the next one of the new list has its id, so its change comes in behind theirs
  pub new_step : (k : ℕ) (a : Label) (before after : List Change) → k < length new.labels.now →
      get_or new.labels.now k a ≡ a → AreChangesAmong old new (HasId (take k new.labels.now)) before →
      IsTakenIn old new a.order.id before after → AreChangesAmong old new (HasId (take (k + 1) new.labels.now)) after
  new_step k a before after lt is at taken =
      let labels = new.labels.now in
      let front = take k labels in
      let more = more_among old new (HasId front) a.order.id before after (new_id labels k a listed.ordered lt is) at taken in
      let P : List Label → Type 0 = λ ls. AreChangesAmong old new (HasId ls) after in
      subst P (sym (take_more labels k a lt ∙ ap (λ (l : Label). front ++ l ∷ []) is))
      (same_among old new (λ x. HasId front x ⊎ (x ≡ a.order.id)) (HasId (front ++ a ∷ [])) after
      (λ id h. elim h [ inl known ↦ has_front front a id known | inr last ↦ has_last front a id last ])
      (λ id h. has_cases front a id h) more)

-- ---- the changes of all ids

module _ (old new : Listed) (listed : IsListed old) where
  -- before the first label of the old list, the changes are those of the new list's ids
  pub all_start : (some : List Change) → AreChangesAmong old new (HasId new.labels.now) some → AreChangesAmong old new (λ id. HasId new.labels.now id ⊎ HasId (take 0 old.labels.now) id) some
  all_start some at = same_among old new (HasId new.labels.now) (λ id. HasId new.labels.now id ⊎ HasId [] id) some
      (λ id h. inl h) (λ id h. elim h [ inl known ↦ known | inr none ↦ absurd (no_ids id none) ]) at

  module _ (k : ℕ) (a : Label) (lt : k < length old.labels.now) (is : get_or old.labels.now k a ≡ a) where
    forth : (id : List ℕ) → (HasId new.labels.now id ⊎ HasId (take k old.labels.now) id) ⊎ (id ≡ a.order.id) → HasId new.labels.now id ⊎ HasId (take k old.labels.now ++ a ∷ []) id
    forth id h = elim h [
      | inl known ↦ elim known [ inl there ↦ inl there | inr earlier ↦ inr (has_front (take k old.labels.now) a id earlier) ]
      | inr last ↦ inr (has_last (take k old.labels.now) a id last)
    ]

    back : (id : List ℕ) → HasId new.labels.now id ⊎ HasId (take k old.labels.now ++ a ∷ []) id → (HasId new.labels.now id ⊎ HasId (take k old.labels.now) id) ⊎ (id ≡ a.order.id)
    back id h = elim h [
      | inl known ↦ inl (inl known)
      | inr there ↦ elim (has_cases (take k old.labels.now) a id there) [ inl earlier ↦ inl (inr earlier) | inr last ↦ inr last ]
    ]

    longer : (after : List Change) → AreChangesAmong old new (λ id. HasId new.labels.now id ⊎ HasId (take k old.labels.now ++ a ∷ []) id) after →
        AreChangesAmong old new (λ id. HasId new.labels.now id ⊎ HasId (take (k + 1) old.labels.now) id) after
    longer after h =
        let P : List Label → Type 0 = λ ls. AreChangesAmong old new (λ id. HasId new.labels.now id ⊎ HasId ls id) after in
        subst P (sym (take_more old.labels.now k a lt ∙ ap (λ (l : Label). take k old.labels.now ++ l ∷ []) is)) h

    -- the change of the next old label comes in only where the new list lacks its id, so that none comes in twice
    pub all_step : (before after : List Change) → AreChangesAmong old new (λ id. HasId new.labels.now id ⊎ HasId (take k old.labels.now) id) before →
        IsTakenIfGone old new a.order.id before after → AreChangesAmong old new (λ id. HasId new.labels.now id ⊎ HasId (take (k + 1) old.labels.now) id) after
    all_step before after at taken = elim taken [
      | inl known ↦
          longer after (subst (λ (cs : List Change). AreChangesAmong old new (λ id. HasId new.labels.now id ⊎ HasId (take k old.labels.now ++ a ∷ []) id) cs) (sym known.1)
          (same_among old new (λ id. HasId new.labels.now id ⊎ HasId (take k old.labels.now) id) (λ id. HasId new.labels.now id ⊎ HasId (take k old.labels.now ++ a ∷ []) id) before
          (λ id h. forth id (inl h))
          (λ id h. elim (back id h) [ inl there ↦ there | inr last ↦ inl (subst (HasId new.labels.now) (sym last) known.0) ]) at))
      | inr gone ↦
          longer after (same_among old new (λ id. (HasId new.labels.now id ⊎ HasId (take k old.labels.now) id) ⊎ (id ≡ a.order.id))
          (λ id. HasId new.labels.now id ⊎ HasId (take k old.labels.now ++ a ∷ []) id) after forth back
          (more_among old new (λ id. HasId new.labels.now id ⊎ HasId (take k old.labels.now) id) a.order.id before after
          (λ h. elim h [ inl there ↦ gone.0 there.0 there.1 | inr there ↦ new_id old.labels.now k a listed.ordered lt is there ]) at gone.1))
    ]

-- an id that changes is that of a label
changed_id : (old new : Listed) (id : List ℕ) (was is : Option Ranged) → IsStateOf old.labels.now old.slots.now id was →
    IsStateOf new.labels.now new.slots.now id is → was ≢ is → HasId new.labels.now id ⊎ HasId old.labels.now id
changed_id old new id None None before after differ = absurd (differ refl)
changed_id old new id (Some a) is before after differ = inr (before.place, (before.is_place, λ d. ap (λ (u : Unplaced). u.id) (before.its_label d) ∙ before.its_id))
changed_id old new id None (Some b) before after differ = inl (after.place, (after.is_place, λ d. ap (λ (u : Unplaced). u.id) (after.its_label d) ∙ after.its_id))

-- the changes of the ids of both lists, sorted by id, are all changes from the old state to the new one
pub all_changes : (old new : Listed) (some sorted : List Change) → AreChangesAmong old new (λ id. HasId new.labels.now id ⊎ HasId old.labels.now id) some →
    ((c : Change) → Contains sorted c ↔ Contains some c) → IsStrictlySortedBy (slice_cmp nat_cmp) (map (λ (c : Change). c.id) sorted) →
    AreChanges old.labels.now old.slots.now new.labels.now new.slots.now sorted
all_changes old new some sorted at same ascending = record {
  ascending = ascending;
  sound = (λ k d lt. ((at.are (get_or sorted k d)).0 ((same (get_or sorted k d)).0 (Contains-get_or sorted k d lt))).0);
  whole = (λ c h. (same c).1 ((at.are c).1 (h, changed_id old new c.id h.was h.is h.state_before h.state_after h.differ)));
}
