-- What an edit changes, from what stays and what becomes of the edited label.
use Rattle.std.proofs.Common.{◌≡◌, ◌≢◌, ℕ, ◌<◌, List, length, get_or, map, Contains, ◌⊎◌, inl, inr, refl, sym, ap, ◌∙◌, subst, arith, Bool, true, false}
use Rattle.std.specs.Prelude.{Option, Some, None, nat_eq, ◌↔◌}
use Rattle.std.specs.Option.{option_map}
use Rattle.std.specs.Ordering.{nat_cmp}
use Rattle.std.specs.Cmp.Lexicographic.{slice_cmp, pointwise}
use Rattle.std.specs.List.Sorted.{IsStrictlySortedBy}
use Rattle.std.proofs.lemmas.List.Elements.{Contains-get_or}
use Rattle.ml_ratio.specs.declared.ratio.Ratio.{Ratio}
use Rattle.ml_cone.specs.Label.{IsLabelList}
use Rattle.ml_cone.specs.Slots.{no_slot}
use Rattle.ml_cone.specs.declared.label.Label.{Label}
use Rattle.ml_cone.specs.declared.slot.Slot.{Slot}
use Rattle.ml_watch.specs.declared.change.Change.{Change}
use Rattle.ml_store.specs.Rows.{labels_in, slots_in}
use Rattle.ml_store.specs.declared.row.Row.{Row}
use Rattle.ml_repair.specs.Changes.{Ranged, IsStanding, IsAbsent, IsStateOf, IsChange, AreChanges}
use Rattle.ml_repair.specs.Plan.{moved_row, slot_for}
use Rattle.ml_repair.specs.Stays.{IsStayChange, stay_change}
use Rattle.ml_store.specs.declared.moved.Moved.{Moved}
use Rattle.ml_repair.proofs.NearRosters.{row_there, label_read}
use Rattle.ml_repair.proofs.OneRow.{one_id}
use Rattle.ml_repair.proofs.Present.{length-labels}
use Rattle.std.proofs.lemmas.Slice.Eq.{bytes_eq-Decides}
use Rattle.ml_ratio.proofs.lemmas.Lists.{map_read}

-- a row's label with its active range
abbrev pub ranged : Row → Ranged
ranged r = record { label = r.label; span = record { min = r.label.min; until = r.slot.until } }

ranged_same : (a b : Ranged) → a.label ≡ b.label → a.span ≡ b.span → a ≡ b
ranged_same a b e f = λ i. record { label = e i; span = f i }

-- two changes are one where they have the same id and the same ranges before and after
pub change_same : (a b : Change) → a.id ≡ b.id → a.before ≡ b.before → a.after ≡ b.after → a ≡ b
change_same a b e f g = λ i. record { id = e i; before = f i; after = g i }

-- ---- one list

-- the label of each row stands in the list under its id, with its active range
pub standing : (rows : List Row) (r : Row) → Contains rows r → IsStanding (labels_in rows) (slots_in rows) r.label.order.id (ranged r)
standing rows r there =
    let many = length-labels rows in
    let lt : there.0 < length rows = there.1 in
    record {
      place = there.0;
      is_place = omega arith;
      its_label = λ d. label_read rows there.0 r d lt (sym there.2);
      its_id = refl;
      its_span = ap (λ (s : Slot). record { min = r.label.min; until = s.until }) (sym (map_read (λ (t : Row). t.slot) rows there.0 r no_slot lt (sym there.2)));
    }

-- a label that stands in the list under an id is the label of some row with that id
pub standing_row : (rows : List Row) (id : List ℕ) (one : Ranged) → IsStanding (labels_in rows) (slots_in rows) id one → (r : Row) × Contains rows r × (r.label.order.id ≡ id) × (one ≡ ranged r)
standing_row rows id one stands =
    let many = length-labels rows in
    let at : ℕ = stands.place in
    let l : at < length (labels_in rows) = stands.is_place in
    let lt : at < length rows = omega arith in
    let s = row_there rows at lt in
    let r : Row = s.0 in
    let label : r.label ≡ one.label = sym (label_read rows at r r.label lt s.1) ∙ stands.its_label r.label in (
      r,
      (at, lt, sym s.1),
      ap (λ (a : Label). a.order.id) label ∙ stands.its_id,
      ranged_same one (ranged r) (sym label)
          (stands.its_span ∙ ap (λ (a : Label). record { min = a.min; until = (get_or (slots_in rows) at no_slot).until }) (sym label)
          ∙ ap (λ (t : Slot). record { min = r.label.min; until = t.until }) (map_read (λ (t : Row). t.slot) rows at r no_slot lt s.1)),
    )

-- where no label has an id, no row has it
pub no_row : (rows : List Row) (id : List ℕ) → IsAbsent (labels_in rows) id → (r : Row) → Contains rows r → r.label.order.id ≢ id
no_row rows id absent r there e =
    let many = length-labels rows in
    let lt : there.0 < length rows = there.1 in
    absent there.0 r.label (omega arith) (ap (λ (a : Label). a.order.id) (label_read rows there.0 r r.label lt (sym there.2)) ∙ e)

-- where no row has an id, no label has it
pub is_absent : (rows : List Row) (id : List ℕ) → ((r : Row) → Contains rows r → r.label.order.id ≢ id) → IsAbsent (labels_in rows) id
is_absent rows id none k d lt e =
    let many = length-labels rows in
    let k_in : k < length rows = omega arith in
    let s = row_there rows k k_in in
    none s.0 (k, k_in, sym s.1) (ap (λ (a : Label). a.order.id) (sym (label_read rows k s.0 d k_in s.1)) ∙ e)

state_once : (rows : List Row) (id : List ℕ) (a b : Option Ranged) → IsLabelList (labels_in rows) →
    IsStateOf (labels_in rows) (slots_in rows) id a → IsStateOf (labels_in rows) (slots_in rows) id b → a ≡ b
state_once rows id None None up p q = refl
state_once rows id None (Some b) up p q = let s = standing_row rows id b q in absurd (no_row rows id p s.0 s.1 s.2)
state_once rows id (Some a) None up p q = let s = standing_row rows id a p in absurd (no_row rows id q s.0 s.1 s.2)
state_once rows id (Some a) (Some b) up p q =
    let s = standing_row rows id a p in
    let t = standing_row rows id b q in
    let e : s.0 ≡ t.0 = one_id rows s.0 t.0 s.1 t.1 up (s.2 ∙ sym t.2) in
    ap (λ (x : Ranged). Some x) (s.3 ∙ ap ranged e ∙ sym t.3)

-- ---- an edit

-- the rows before it and after it, and those that stay
pub record IsEdit (rows after left : List Row) (moved : List Moved) (id : List ℕ) : Type 0 where
  pub up_before : IsLabelList (labels_in rows)
  pub up_after : IsLabelList (labels_in after)
  pub stays : (r : Row) → Contains rows r → r.label.order.id ≢ id → Contains left r
  pub stayed : (r : Row) → Contains left r → Contains rows r × (r.label.order.id ≢ id)
  pub comes_back : (r : Row) → Contains left r → Contains after (moved_row moved r)
  pub came : (r : Row) → Contains after r → r.label.order.id ≢ id → (s : Row) × Contains left s × (r ≡ moved_row moved s)

-- the change of the edited label
abbrev pub edited_change : List ℕ → Option Ranged → Option Ranged → Change
edited_change id was is = record { id = id; before = option_map (λ one. one.span) was; after = option_map (λ one. one.span) is }

module _ (rows after left : List Row) (moved : List Moved) (id : List ℕ) (edit : IsEdit rows after left moved id) (was is : Option Ranged)
    (state_before : IsStateOf (labels_in rows) (slots_in rows) id was) (state_after : IsStateOf (labels_in after) (slots_in after) id is) where
  Change' : Change → Type 0
  Change' c = IsChange (labels_in rows) (slots_in rows) (labels_in after) (slots_in after) c

  edited_is : was ≢ is → IsChange (labels_in rows) (slots_in rows) (labels_in after) (slots_in after) (edited_change id was is)
  edited_is differ = record { was = was; is = is; state_before = state_before; state_after = state_after; differ = differ; span_before = refl; span_after = refl }

  stay_is : (r : Row) → Contains left r → r.slot.until ≢ (slot_for r.number r.slot moved).until →
      IsChange (labels_in rows) (slots_in rows) (labels_in after) (slots_in after) (stay_change r (slot_for r.number r.slot moved))
  stay_is r there differ = record {
    was = Some (ranged r);
    is = Some (ranged (moved_row moved r));
    state_before = standing rows r (edit.stayed r there).0;
    state_after = standing after (moved_row moved r) (edit.comes_back r there);
    differ = λ e. let f : ranged r ≡ ranged (moved_row moved r) = cc in differ (ap (λ (x : Ranged). x.span.until) f);
    span_before = refl;
    span_after = refl;
  }

  sound : (c : Change) → IsStayChange left moved c ⊎ ((c ≡ edited_change id was is) × (was ≢ is)) → IsChange (labels_in rows) (slots_in rows) (labels_in after) (slots_in after) c
  sound c h =
      elim h [
        | inl s ↦ subst (IsChange (labels_in rows) (slots_in rows) (labels_in after) (slots_in after)) (sym s.change_is) (stay_is s.row s.there s.differ)
        | inr e ↦ subst (IsChange (labels_in rows) (slots_in rows) (labels_in after) (slots_in after)) (sym e.0) (edited_is e.1)
      ]

  -- a change of another id is that of a label that stays
  other : (c : Change) → c.id ≢ id → (a b : Option Ranged) → IsStateOf (labels_in rows) (slots_in rows) c.id a → IsStateOf (labels_in after) (slots_in after) c.id b → a ≢ b →
      c.before ≡ option_map (λ one. one.span) a → c.after ≡ option_map (λ one. one.span) b → IsStayChange left moved c
  other c apart None None p q differ before after' = absurd (differ refl)
  other c apart None (Some b) p q differ before after' =
      let t = standing_row after c.id b q in
      let s = edit.came t.0 t.1 (λ e. apart (sym t.2 ∙ e)) in
      absurd (no_row rows c.id p s.0 (edit.stayed s.0 s.1).0 (sym (ap (λ (x : Row). x.label.order.id) s.2) ∙ t.2))
  other c apart (Some a) None p q differ before after' =
      let s = standing_row rows c.id a p in
      let there = edit.stays s.0 s.1 (λ e. apart (sym s.2 ∙ e)) in
      absurd (no_row after c.id q (moved_row moved s.0) (edit.comes_back s.0 there) s.2)
  other c apart (Some a) (Some b) p q differ before after' =
      let s = standing_row rows c.id a p in
      let r : Row = s.0 in
      let there = edit.stays r s.1 (λ e. apart (sym s.2 ∙ e)) in
      let new : Some b ≡ Some (ranged (moved_row moved r)) =
      state_once after c.id (Some b) (Some (ranged (moved_row moved r))) edit.up_after q
      (subst (λ (i : List ℕ). IsStanding (labels_in after) (slots_in after) i (ranged (moved_row moved r))) s.2 (standing after (moved_row moved r) (edit.comes_back r there))) in
      record {
        row = r;
        there = there;
        change_is = change_same c (stay_change r (slot_for r.number r.slot moved)) (sym s.2) (before ∙ ap (λ (x : Ranged). Some x.span) s.3) (after' ∙ ap (option_map (λ (x : Ranged). x.span)) new);
        differ = λ e. differ (ap (λ (x : Ranged). Some x) s.3 ∙ ap (λ (u : Ratio). Some (record { label = r.label; span = record { min = r.label.min; until = u } })) e ∙ sym new);
      }

  whole : (c : Change) → IsChange (labels_in rows) (slots_in rows) (labels_in after) (slots_in after) c → IsStayChange left moved c ⊎ ((c ≡ edited_change id was is) × (was ≢ is))
  whole c h = go (pointwise nat_eq c.id id) refl
    where
      go : (b : Bool) → pointwise nat_eq c.id id ≡ b → IsStayChange left moved c ⊎ ((c ≡ edited_change id was is) × (was ≢ is))
      go true e =
          let same : c.id ≡ id = (bytes_eq-Decides c.id id).0 e in
          let a : h.was ≡ was = state_once rows c.id h.was was edit.up_before h.state_before (subst (λ (i : List ℕ). IsStateOf (labels_in rows) (slots_in rows) i was) (sym same) state_before) in
          let b : h.is ≡ is = state_once after c.id h.is is edit.up_after h.state_after (subst (λ (i : List ℕ). IsStateOf (labels_in after) (slots_in after) i is) (sym same) state_after) in
          inr (
            change_same c (edited_change id was is) same (h.span_before ∙ ap (option_map (λ (x : Ranged). x.span)) a) (h.span_after ∙ ap (option_map (λ (x : Ranged). x.span)) b),
            λ f. h.differ (a ∙ f ∙ sym b),
          )
      go false e =
          inl (other c (λ same. let t = (bytes_eq-Decides c.id id).1 same in let f : true ≡ false = sym t ∙ e in cc) h.was h.is h.state_before h.state_after h.differ h.span_before h.span_after)

  -- sorted by id, the changes of the labels that stay, and that of the edited one if it differs, are those of the edit
  pub are_changes : (changes : List Change) → IsStrictlySortedBy (slice_cmp nat_cmp) (map (λ change. change.id) changes) →
      ((c : Change) → Contains changes c ↔ (IsStayChange left moved c ⊎ ((c ≡ edited_change id was is) × (was ≢ is)))) →
      AreChanges (labels_in rows) (slots_in rows) (labels_in after) (slots_in after) changes
  are_changes changes sorted same = record {
    ascending = sorted;
    sound = λ k d lt. sound (get_or changes k d) ((same (get_or changes k d)).0 (Contains-get_or changes k d lt));
    whole = λ c h. (same c).1 (whole c h);
  }
