-- What changes where all labels of a map are made anew.
use Rattle.std.proofs.Common.{◌≡◌, ◌≢◌, ℕ, List, [], ◌∷◌, ◌++◌, get_or, map, Contains, Option, Some, None, ◌⊎◌, inl, inr, refl, sym, ap, subst, ◌∙◌, arith}
use Rattle.std.specs.Prelude.{◌↔◌}
use Rattle.std.specs.Option.{option_map}
use Rattle.std.specs.Ordering.{nat_cmp}
use Rattle.std.specs.Cmp.Lexicographic.{slice_cmp}
use Rattle.std.specs.List.Sorted.{IsStrictlySortedBy}
use Rattle.std.proofs.lemmas.List.{get_or-map, length-map}
use Rattle.std.proofs.lemmas.List.Elements.{Contains-append_left, Contains-push, Contains-push_cases, Contains-get_or}
use Rattle.std.proofs.lemmas.List.Quantifiers.{all_pairs_push}
use Rattle.ml_ratio.specs.declared.feature.Feature.{Feature}
use Rattle.ml_ratio.specs.declared.ratio.Ratio.{Ratio}
use Rattle.ml_cone.specs.Slots.{no_slot}
use Rattle.ml_cone.specs.declared.label.Label.{Label}
use Rattle.ml_cone.specs.declared.slot.Slot.{Slot}
use Rattle.ml_store.specs.Rows.{labels_in, slots_in, HasId}
use Rattle.ml_store.specs.declared.row.Row.{Row}
use Rattle.ml_watch.specs.declared.change.Change.{Change}
use Rattle.ml_repair.specs.Changes.{Ranged, IsStanding, IsAbsent, IsStateOf, AreChanges}
use Rattle.ml_repair.specs.Settled.{IsSettled}
use Rattle.ml_repair.specs.Stays.{IsJoinedBy}
use Rattle.ml_watch.specs.ById.{HaveOwnIds}
use Rattle.ml_editor.specs.State.{HasFeature}
use Rattle.ml_editor.specs.Changing.{IsChangeIn, IsChangeOf, IsTakenIn, AreChangesAt}
use Rattle.ml_editor.proofs.States.{added_cases, one_behind, last_one}
use Rattle.ml_editor.proofs.Unchanged.{same_state}

-- ---- the label with an id

-- where no label has an id, each label has another one
pub absent_of : (labels : List Label) (id : List ℕ) → ¬ (HasId labels id) → IsAbsent labels id
absent_of labels id none k d lt same = none (get_or labels k d, Contains-get_or labels k d lt, same)

-- a row with its active range
abbrev pub ranged_row : Row → Ranged
ranged_row r = record { label = r.label; span = record { min = r.label.min; until = r.slot.until } }

-- a row's label stands, with its id and its active range, among the labels of the rows
pub stands : (rows : List Row) (r : Row) (id : List ℕ) → Contains rows r → r.label.order.id ≡ id → IsStanding (labels_in rows) (slots_in rows) id (ranged_row r)
stands rows r id there same = record {
  place = there.0;
  is_place = (let long = length-map rows (λ (x : Row). x.label) in let lt = there.1 in omega arith);
  its_label = (λ d. get_or-map (λ (x : Row). x.label) rows there.0 r d there.1 ∙ ap (λ (x : Row). x.label) there.2);
  its_id = same;
  its_span = ap (λ (s : Slot). record { min = r.label.min; until = s.until }) (sym (get_or-map (λ (x : Row). x.slot) rows there.0 r no_slot there.1 ∙ ap (λ (x : Row). x.slot) there.2));
}

-- the same where its label, its minimum and its slot are given one by one
pub stands_so : (rows : List Row) (r : Row) (id : List ℕ) (label : Label) (min : Ratio) (slot : Slot) →
    Contains rows r → r.label.order.id ≡ id → label ≡ r.label → min ≡ label.min → slot ≡ r.slot →
    IsStanding (labels_in rows) (slots_in rows) id (record { label = label; span = record { min = min; until = slot.until } })
stands_so rows r id label min slot there same labels mins slots =
    let low : r.label.min ≡ min = ap (λ (l : Label). l.min) (sym labels) ∙ sym mins in
    subst (IsStanding (labels_in rows) (slots_in rows) id) (λ i. record { label = sym labels i; span = record { min = low i; until = (sym slots i).until } }) (stands rows r id there same)

-- ---- the change of an id

module _ (old new : List Row) (settled : IsSettled old) (settled_too : IsSettled new) (id : List ℕ) (was is : Option Ranged)
    (before : IsStateOf (labels_in old) (slots_in old) id was) (after : IsStateOf (labels_in new) (slots_in new) id is) where
  was_only : (c : Change) → (h : IsChangeIn old new c) → c.id ≡ id → h.was ≡ was
  was_only c h same =
      let P : List ℕ → Type 0 = λ i. IsStateOf (labels_in old) (slots_in old) i h.was in
      same_state (labels_in old) (slots_in old) settled.in_order id h.was was (subst P same h.state_before) before

  is_only : (c : Change) → (h : IsChangeIn old new c) → c.id ≡ id → h.is ≡ is
  is_only c h same =
      let P : List ℕ → Type 0 = λ i. IsStateOf (labels_in new) (slots_in new) i h.is in
      same_state (labels_in new) (slots_in new) settled_too.in_order id h.is is (subst P same h.state_after) after

  -- an id whose label and active range are as they were has no change
  pub no_change : was ≡ is → IsChangeOf old new id None
  no_change same c = ((λ e. absurd cc), (λ h. absurd (h.0.differ (was_only c h.0 h.1 ∙ same ∙ sym (is_only c h.0 h.1)))))

  module _ (differ : was ≢ is) (c : Change) (own : c.id ≡ id) (span_before : c.before ≡ option_map (λ (one : Ranged). one.span) was)
      (span_after : c.after ≡ option_map (λ (one : Ranged). one.span) is) where
    changes : IsChangeIn old new c
    changes =
        let P : List ℕ → Type 0 = λ i. IsStateOf (labels_in old) (slots_in old) i was in
        let Q : List ℕ → Type 0 = λ i. IsStateOf (labels_in new) (slots_in new) i is in
        record { was = was; is = is; state_before = subst P (sym own) before; state_after = subst Q (sym own) after; differ = differ; span_before = span_before; span_after = span_after }

    the_same : (other : Change) → IsChangeIn old new other → other.id ≡ id → c ≡ other
    the_same other h same =
        let ids : c.id ≡ other.id = own ∙ sym same in
        let befores : c.before ≡ other.before = span_before ∙ ap (option_map (λ (one : Ranged). one.span)) (sym (was_only other h same)) ∙ sym h.span_before in
        let afters : c.after ≡ other.after = span_after ∙ ap (option_map (λ (one : Ranged). one.span)) (sym (is_only other h same)) ∙ sym h.span_after in
        (λ i. record { id = ids i; before = befores i; after = afters i })

    -- where they are not, the id has one change, which tells the active ranges before and after
    pub one_change : IsChangeOf old new id (Some c)
    one_change other = (
      (λ e. let same : c ≡ other = cc in (subst (IsChangeIn old new) same changes, sym (ap (λ (x : Change). x.id) same) ∙ own)),
      (λ h. ap Some (the_same other h.0 h.1)),
    )

-- ---- the changes of many ids

module _ (old new : List Row) where
  -- the ids of no features have no changes
  pub none_yet : AreChangesAt old new [] []
  none_yet = record {
    are = (λ c. ((λ h. let lt = h.1 in absurd (omega arith)), (λ h. let lt = h.1.1.1 in absurd (omega arith))));
    own = (λ i j d below within. absurd (omega (arith, within)));
  }

  one_more_is : (fs : List Feature) (f : Feature) (change : Option Change) (before after : List Change) → AreChangesAt old new fs before →
      IsChangeOf old new f.id change → IsJoinedBy change before after → (c : Change) → Contains after c ↔ (IsChangeIn old new c × HasFeature (fs ++ f ∷ []) c.id)
  one_more_is fs f None before after at of joined c = rw joined (
    (λ h. let x = (at.are c).0 h in (x.0, one_behind fs f c.id x.1)),
    (λ h. elim (added_cases fs f c.id h.1) [
      | inl known ↦ (at.are c).1 (h.0, known)
      | inr last ↦ absurd (let e : None ≡ Some c = (of c).1 (h.0, sym last) in cc)
    ]),
  )
  one_more_is fs f (Some x) before after at of joined c = rw joined (
    (λ h. elim (Contains-push_cases before x c h) [
      | inl more ↦ let y = (at.are c).0 more in (y.0, one_behind fs f c.id y.1)
      | inr same ↦ let y = (of c).0 (ap Some same) in (y.0, last_one fs f c.id (sym y.1))
    ]),
    (λ h. elim (added_cases fs f c.id h.1) [
      | inl known ↦ Contains-append_left before (x ∷ []) c ((at.are c).1 (h.0, known))
      | inr last ↦ let e : Some x ≡ Some c = (of c).1 (h.0, sym last) in let same : x ≡ c = cc in subst (Contains (before ++ x ∷ [])) same (Contains-push before x)
    ]),
  )

  one_more_own : (fs : List Feature) (f : Feature) (change : Option Change) (before after : List Change) → ¬ (HasFeature fs f.id) →
      AreChangesAt old new fs before → IsChangeOf old new f.id change → IsJoinedBy change before after → HaveOwnIds after
  one_more_own fs f None before after unknown at of joined = rw joined at.own
  one_more_own fs f (Some x) before after unknown at of joined = rw joined (all_pairs_push (λ (a : Change) (b : Change). a.id ≢ b.id) before x at.own (λ k d lt same.
      let own : x.id ≡ f.id = ((of x).0 refl).1 in
      let P : List ℕ → Type 0 = λ id. HasFeature fs id in
      unknown (subst P (same ∙ own) ((at.are (get_or before k d)).0 (Contains-get_or before k d lt)).1)))

  -- the change of a further feature's id, if there is one, comes to those of the features before it
  pub one_more_change : (fs : List Feature) (f : Feature) (before after : List Change) → ¬ (HasFeature fs f.id) →
      AreChangesAt old new fs before → IsTakenIn old new f.id before after → AreChangesAt old new (fs ++ f ∷ []) after
  one_more_change fs f before after unknown at (change, of, joined) = record {
    are = one_more_is fs f change before after at of joined;
    own = one_more_own fs f change before after unknown at of joined;
  }

  -- an id that changes is that of a label
  changed_id : (id : List ℕ) (was is : Option Ranged) → IsStateOf (labels_in old) (slots_in old) id was →
      IsStateOf (labels_in new) (slots_in new) id is → was ≢ is → HasId (labels_in old) id ⊎ HasId (labels_in new) id
  changed_id id None None before after differ = absurd (differ refl)
  changed_id id (Some a) is before after differ = inl (a.label, (before.place, before.is_place, before.its_label a.label), before.its_id)
  changed_id id None (Some b) before after differ = inr (b.label, (after.place, after.is_place, after.its_label b.label), after.its_id)

  -- where each label is that of a feature, the changes of the features' ids, sorted, are all changes between the two lists of labels
  pub all_changes : (fs : List Feature) (some sorted : List Change) → ((id : List ℕ) → HasId (labels_in old) id → HasFeature fs id) →
      ((id : List ℕ) → HasId (labels_in new) id → HasFeature fs id) → AreChangesAt old new fs some → ((c : Change) → Contains sorted c ↔ Contains some c) →
      IsStrictlySortedBy (slice_cmp nat_cmp) (map (λ (c : Change). c.id) sorted) → AreChanges (labels_in old) (slots_in old) (labels_in new) (slots_in new) sorted
  all_changes fs some sorted known known_too at same ascending = record {
    ascending = ascending;
    sound = (λ k d lt. ((at.are (get_or sorted k d)).0 ((same (get_or sorted k d)).0 (Contains-get_or sorted k d lt))).0);
    whole = (λ c h. (same c).1 ((at.are c).1 (
      h,
      elim (changed_id c.id h.was h.is h.state_before h.state_after h.differ) [
        | inl there ↦ known c.id there
        | inr there ↦ known_too c.id there
      ],
    )));
  }
