-- Plans, from what their parts say.
use Rattle.std.proofs.Common.{◌≡◌, ◌≢◌, ℕ, ◌+◌, ◌<◌, ◌≤◌, List, [], length, get_or, map, Contains, ◌⊎◌, inl, inr, refl, sym, ap, ◌∙◌, subst, arith, Option, Some, None, true, false}
use Rattle.std.specs.Prelude.{insert, remove, ◌↔◌, Box, IfSome}
use Rattle.std.specs.declared.alloc.Global.{Global}
use Rattle.std.specs.Ordering.{nat_cmp}
use Rattle.std.specs.Cmp.Lexicographic.{slice_cmp}
use Rattle.std.specs.List.Sorted.{IsStrictlySortedBy}
use Rattle.ml_cone.specs.Label.{IsLabelList}
use Rattle.ml_cone.specs.declared.label.Label.{Label}
use Rattle.ml_cone.specs.declared.slot.Slot.{Slot}
use Rattle.ml_cone.specs.declared.slot.Span.{Span}
use Rattle.ml_watch.specs.declared.change.Change.{Change}
use Rattle.ml_store.specs.Numbered.{AreNumbered}
use Rattle.ml_store.specs.Rows.{numbers_in, labels_in, slots_in, HasId, IsFresh}
use Rattle.ml_store.specs.declared.row.Row.{Row}
use Rattle.std.proofs.lemmas.List.Edits.{length-insert, get_or-insert_at}
use Rattle.ml_repair.specs.Changes.{Ranged, IsStateOf, AreChanges}
use Rattle.ml_repair.specs.Cost.{IsCost}
use Rattle.ml_repair.specs.Edit.{IsEdited}
use Rattle.ml_repair.specs.Placed.{IsPlaceFor}
use Rattle.ml_repair.specs.Plan.{Planned, IsPlanFor, AreNewIn, CanBeMade, KeepNumbers, edited_id, planned_rows, kept_rows, rows_with, with_row, without_id, moved_row, moved_rows, slot_for}
use Rattle.ml_repair.specs.Repair.{AreSettled}
use Rattle.ml_repair.specs.Settled.{IsSettled}
use Rattle.ml_repair.specs.Stays.{IsStayChange, IsChangeBetween}
use Rattle.ml_repair.specs.Touched.{AreTouched}
use Rattle.ml_repair.specs.declared.edit.LabelEdit.{LabelEdit}
use Rattle.ml_repair.specs.declared.edit.LabelEdit.TheVariants.{Add, Remove, Replace}
use Rattle.ml_store.specs.declared.moved.Moved.{Moved}
use Rattle.ml_repair.proofs.Changing.{ranged, standing, is_absent, are_changes, edited_change, change_same}
use Rattle.ml_repair.proofs.Placing.{list_insert, list_remove}
use Rattle.ml_store.proofs.lemmas.Moved.{moved_none}
use Rattle.ml_store.proofs.lemmas.Numbered.{numbered_inserted, numbered_removed}
use Rattle.ml_repair.proofs.Present.{labels-moved, length-labels, low_number}
use Rattle.std.proofs.lemmas.List.{length-map}
use Rattle.std.proofs.lemmas.List.Elements.{Contains-get_or}
use Rattle.ml_repair.proofs.OneRow.{one_id}
use Rattle.ml_repair.proofs.Shapes.{AreLeft, AreJoinedBy, label_of, edit_is, edited_is, settled_after, left_remove, left_all, left_no_id}
use Rattle.ml_repair.proofs.Shapes.{without_remove_is, joined_none, joined_some, come_is, place_of_id, no_id, low_of_rows, numbered}
use Rattle.ml_ratio.proofs.lemmas.Lists.{contains_map, map_contains, map_insert, map_remove, removed_gone, map_read, insert_there}

-- new slots of these rows that make the same of them as others, each of them a new one
pub record IsLastOf (last moved : List Moved) (rows : List Row) : Type 0 where
  pub same : moved_rows last rows ≡ moved_rows moved rows
  pub new : AreNewIn rows last

planned_is : (plan : Planned) (rows : List Row) → planned_rows plan rows ≡ rows_with plan.edit (moved_rows plan.moved (kept_rows plan.edit rows))
unfolding planned_rows
planned_is plan rows = refl

module _ (rows left all : List Row) (moved : List Moved) (id : List ℕ) (come : Option Row) (are : AreLeft rows left id)
    (joined : AreJoinedBy left all id come) (edit : LabelEdit) (changes : List Change) (n : ℕ)
    (settled : IsSettled rows) (numbered_all : AreNumbered all) (up_all : IsLabelList (labels_in all)) (slots : AreSettled all moved)
    (made : rows_with edit (moved_rows moved (kept_rows edit rows)) ≡ moved_rows moved all) (last : List Moved) (lasting : IsLastOf last moved (kept_rows edit rows)) where
  -- the plan, with the lasting new slots alone, makes the same rows as the edit with all new slots
  pub planned : planned_rows (record { edit = edit; moved = last; changes = changes; evaluated = n }) rows ≡ moved_rows moved all
  planned = planned_is (record { edit = edit; moved = last; changes = changes; evaluated = n }) rows ∙ ap (rows_with edit) lasting.same ∙ made

  keep_numbers : ((r s : Row) → come ≡ Some s → Contains rows r → r.label.order.id ≡ id → r.number ≡ s.number) → KeepNumbers rows (moved_rows moved all)
  keep_numbers own r s there after same =
      let t = map_contains (moved_row moved) all s after in
      let its : r.label.order.id ≡ t.0.label.order.id = same ∙ sym (ap (λ (x : Row). x.label.order.id) t.2) in
      let number : t.0.number ≡ s.number = ap (λ (x : Row). x.number) t.2 in
      elim (joined.only t.0 t.1) [
        | inl stays ↦ ap (λ (x : Row). x.number) (one_id rows r t.0 there (are.stayed t.0 stays).0 settled.in_order its) ∙ number
        | inr comes ↦ own r t.0 comes there (its ∙ (joined.here t.0 comes).1) ∙ number
      ]

  -- the edit with its lasting new slots, its changes and its cost is the plan for these rows
  pub made_plan : (was is : Option Ranged) (own : List ℕ) (label : Option Label) (steps after : ℕ) → CanBeMade edit rows →
      edited_id edit ≡ id → ((r s : Row) → come ≡ Some s → Contains rows r → r.label.order.id ≡ id → r.number ≡ s.number) →
      IsStateOf (labels_in rows) (slots_in rows) id was → IsStateOf (labels_in (moved_rows moved all)) (slots_in (moved_rows moved all)) id is →
      IsStrictlySortedBy (slice_cmp nat_cmp) (map (λ change. change.id) changes) → ((c : Change) → Contains changes c ↔ (IsStayChange left moved c ⊎ ((c ≡ edited_change id was is) × (was ≢ is)))) →
      IsCost (labels_in rows) (labels_in all) id n → id ≡ own → label_of come ≡ label → after ≡ steps + n →
      IsPlanFor (record { edit = edit; moved = last; changes = changes; evaluated = n }) rows own label steps after
  made_plan was is own label steps after possible its numbers state_before state_after sorted same cost is_own is_label spent =
      let plan : Planned = record { edit = edit; moved = last; changes = changes; evaluated = n } in
      let new = planned_rows plan rows in
      let changes_are : AreChanges (labels_in rows) (slots_in rows) (labels_in new) (slots_in new) changes =
      subst (λ (rs : List Row). AreChanges (labels_in rows) (slots_in rows) (labels_in rs) (slots_in rs) changes) (sym planned)
      (are_changes rows (moved_rows moved all) left moved id (edit_is rows left all moved id come are joined settled.in_order up_all) was is state_before state_after changes sorted same) in
      let cost_is : IsCost (labels_in rows) (labels_in new) id n = subst (λ (ls : List Label). IsCost (labels_in rows) ls id n) (sym (ap labels_in planned ∙ labels-moved all moved)) cost in
      let edited : IsEdited id (label_of come) (labels_in rows) (labels_in new) =
      subst (λ (rs : List Row). IsEdited id (label_of come) (labels_in rows) (labels_in rs)) (sym planned) (edited_is rows left all moved id come are joined) in
      let P : List ℕ → Option Label → Type 0 = λ i l. IsEdited i l (labels_in rows) (labels_in new) in
      let Q : List ℕ → Type 0 = λ i. IsCost (labels_in rows) (labels_in new) i n in
      record {
        of_state = record {
          possible = possible;
          moved = lasting.new;
          settled = subst IsSettled (sym planned) (settled_after all moved numbered_all up_all slots);
          numbers = subst (KeepNumbers rows) (sym planned) (keep_numbers numbers);
          changes = changes_are;
          cost = subst Q (sym its) cost_is;
        };
        labels = subst (λ (i : List ℕ). P i label) is_own (subst (P id) is_label edited);
        changes = changes_are;
        cost = subst Q is_own cost_is;
        spent = spent;
      }

-- ---- states of the edited label

-- the label of a row is the one that has its id, with its active range
pub state_there : (rows : List Row) (r : Row) (id : List ℕ) → Contains rows r → r.label.order.id ≡ id → IsStateOf (labels_in rows) (slots_in rows) id (Some (ranged r))
state_there rows r id there is = subst (λ (i : List ℕ). IsStateOf (labels_in rows) (slots_in rows) i (Some (ranged r))) is (standing rows r there)

-- among the labels that are left none has the id of the one that went
pub state_gone : (rows left : List Row) (moved : List Moved) (id : List ℕ) → AreLeft rows left id → IsStateOf (labels_in (moved_rows moved left)) (slots_in (moved_rows moved left)) id None
state_gone rows left moved id are =
    is_absent (moved_rows moved left) id (λ r there e.
    let s = map_contains (moved_row moved) left r there in
    (are.stayed s.0 s.1).1 (ap (λ (t : Row). t.label.order.id) s.2 ∙ e))

-- before a label with a new id comes, none has the id
pub state_new : (rows : List Row) (id : List ℕ) → ¬ (HasId (labels_in rows) id) → IsStateOf (labels_in rows) (slots_in rows) id None
state_new rows id new = is_absent rows id (λ r there e. ((left_all rows id new).stayed r there).1 e)

-- the row that came stands there with its slot
pub state_come : (left : List Row) (at : ℕ) (row : Row) (moved : List Moved) → ((own : Slot) → slot_for row.number own moved ≡ own) →
    IsStateOf (labels_in (moved_rows moved (insert left at row))) (slots_in (moved_rows moved (insert left at row))) row.label.order.id (Some (ranged row))
state_come left at row moved kept =
    state_there (moved_rows moved (insert left at row)) row row.label.order.id
    (subst (Contains (moved_rows moved (insert left at row))) (ap (λ (s : Slot). record row { slot = s }) (kept row.slot)) (moved_there left at row moved)) refl
  where
    moved_there : (left : List Row) (at : ℕ) (row : Row) (moved : List Moved) → Contains (moved_rows moved (insert left at row)) (moved_row moved row)
    moved_there left at row moved = contains_map (moved_row moved) (insert left at row) row (insert_there left at row)

-- ---- the change of the edited label

-- where the label with the id differs before and after, the change that is given is the one change of it
pub some_edited : (edited : Change) (id : List ℕ) (was is : Option Ranged) → edited ≡ edited_change id was is →
    was ≢ is → (c : Change) → (Some edited ≡ Some c) ↔ ((c ≡ edited_change id was is) × (was ≢ is))
some_edited edited id was is same differ c = (λ e. (let f : edited ≡ c = cc in sym f ∙ same, differ), λ h. ap (λ (x : Change). Some x) (same ∙ sym h.0))

-- where a row comes in place of another, the change between them is that of the edited label; if they agree there is none
pub between_edited : (old new : Row) (id : List ℕ) (edited : Option Change) → new.label.order.id ≡ id → IsChangeBetween old new edited →
    (c : Change) → (edited ≡ Some c) ↔ ((c ≡ edited_change id (Some (ranged old)) (Some (ranged new))) × (Some (ranged old) ≢ Some (ranged new)))
between_edited old new id None is h c = (
  λ e. absurd (let f : None ≡ Some c = e in cc),
  λ g. absurd (g.1 (λ i. Some (record { label = h.0 i; span = record { min = (h.0 i).min; until = h.1 i } }))),
)
between_edited old new id (Some edited) is h c =
    some_edited edited id (Some (ranged old)) (Some (ranged new)) (h.1 ∙ change_same _ (edited_change id (Some (ranged old)) (Some (ranged new))) is refl refl)
    (λ e. let f : ranged old ≡ ranged new = cc in h.0 (ap (λ (x : Ranged). x.label) f, ap (λ (x : Ranged). x.span.until) f)) c

-- what changes there are, once it is known which is that of the edited label
pub both_same : (left : List Row) (moved : List Moved) (changes : List Change) (edited : Option Change) (E : Change → Type 0) →
    ((c : Change) → Contains changes c ↔ (IsStayChange left moved c ⊎ (edited ≡ Some c))) →
    ((c : Change) → (edited ≡ Some c) ↔ E c) → (c : Change) → Contains changes c ↔ (IsStayChange left moved c ⊎ E c)
both_same left moved changes edited E are is c =
    (λ h. elim ((are c).0 h) [ inl s ↦ inl s | inr e ↦ inr ((is c).0 e) ], λ h. elim h [ inl s ↦ (are c).1 (inl s) | inr e ↦ (are c).1 (inr ((is c).1 e)) ])

-- ---- costs

-- where a label goes, the cost is the number of labels that are touched as it goes
pub cost_out : (rows : List Row) (at : ℕ) (id : List ℕ) (n : ℕ) → at < length rows → ((d : Row) → (get_or rows at d).label.order.id ≡ id) →
    ¬ (HasId (labels_in (remove rows at)) id) → AreTouched (labels_in rows) at false n → IsCost (labels_in rows) (labels_in (remove rows at)) id n
cost_out rows at id n lt here none touched = record {
  gone = n;
  come = 0;
  touched_gone = inl (at, place_of_id rows at id lt here, touched);
  touched_come = inr (no_id (labels_in (remove rows at)) id none, refl);
  both = omega arith;
}

come_in : (rows : List Row) (at : ℕ) (row : Row) → at ≤ length rows → at < length (insert rows at row)
come_in rows at row le = let n = length-insert rows at row le in omega arith

-- where a label comes, the cost is the number of labels that are touched as it comes
pub cost_in : (rows : List Row) (at : ℕ) (row : Row) (n : ℕ) → at ≤ length rows → ¬ (HasId (labels_in rows) row.label.order.id) →
    AreTouched (labels_in (insert rows at row)) at true n → IsCost (labels_in rows) (labels_in (insert rows at row)) row.label.order.id n
cost_in rows at row n le new touched = record {
  gone = 0;
  come = n;
  touched_gone = inr (no_id (labels_in rows) row.label.order.id new, refl);
  touched_come = inl (at, place_of_id (insert rows at row) at row.label.order.id (come_in rows at row le) (λ d. ap (λ (t : Row). t.label.order.id) (get_or-insert_at rows at row d le)), touched);
  both = omega arith;
}

-- where a label comes in place of another, the cost is the sum of what is touched as the one goes and the other comes
pub cost_both : (rows : List Row) (at : ℕ) (to : ℕ) (row : Row) (n m : ℕ) → at < length rows → ((d : Row) → (get_or rows at d).label.order.id ≡ row.label.order.id) →
    to ≤ length (remove rows at) → AreTouched (labels_in rows) at false n → AreTouched (labels_in (insert (remove rows at) to row)) to true m →
    IsCost (labels_in rows) (labels_in (insert (remove rows at) to row)) row.label.order.id (n + m)
cost_both rows at to row n m lt here le gone come = record {
  gone = n;
  come = m;
  touched_gone = inl (at, place_of_id rows at row.label.order.id lt here, gone);
  touched_come = inl (
    to,
    place_of_id (insert (remove rows at) to row) to row.label.order.id (come_in (remove rows at) to row le) (λ d. ap (λ (t : Row). t.label.order.id) (get_or-insert_at (remove rows at) to row d le)),
    come,
  );
  both = refl;
}

-- a span from a label's minimum to the end of its slot is the row's active range
pub span_same : (r : Row) (s : Span) → s.min ≡ r.label.min → s.until ≡ r.slot.until → s ≡ (ranged r).span
span_same r s e f = λ i. record { min = e i; until = f i }

-- ---- the start

-- as long as there are no new slots, the present slots of settled rows are the longest choice
pub start_settled : (rows : List Row) (moved : List Moved) → moved ≡ [] → IsSettled rows → AreSettled rows moved
start_settled rows moved none settled = rw (none, moved_none rows) settled.slots

-- ---- a label comes

module _ (rows : List Row) (at : ℕ) (row : Row) (boxed : Box Row Global) (moved : List Moved)
    (changes : List Change) (n : ℕ) (settled : IsSettled rows) (new : ¬ (HasId (labels_in rows) row.label.order.id))
    (few : length rows < 32768) (fresh : IsFresh row.number rows) (low : row.number < 32768) (place : IsPlaceFor (labels_in rows) row.label.order at) (slots : AreSettled (insert rows at row) moved)
    (kept : (own : Slot) → slot_for row.number own moved ≡ own) (is_row : boxed.value ≡ row) where
  at_most : at ≤ length rows
  at_most = let many = length-labels rows in let le = place.within in omega arith

  numbered_in : AreNumbered (insert rows at row)
  numbered_in = numbered_inserted rows at row (numbered rows settled) at_most few fresh low

  up_in : IsLabelList (labels_in (insert rows at row))
  up_in = rw (map_insert (λ (r : Row). r.label) rows at row) (list_insert (labels_in rows) at row.label place new settled.in_order)

  made_in : rows_with (Add boxed) (moved_rows moved (kept_rows (Add boxed) rows)) ≡ moved_rows moved (insert rows at row)
  made_in = ap (λ (r : Row). with_row r (moved_rows moved rows)) is_row ∙ come_is rows at row moved place kept

  -- the new slots and changes found for a label that comes, with the number of labels touched, are the plan that adds it
  pub in_plan : (last : List Moved) → IsLastOf last moved rows → (edited : Change) (label : Label) (steps after : ℕ) →
      edited ≡ edited_change row.label.order.id None (Some (ranged row)) → IsStrictlySortedBy (slice_cmp nat_cmp) (map (λ change. change.id) changes) →
      ((c : Change) → Contains changes c ↔ (IsStayChange rows moved c ⊎ (Some edited ≡ Some c))) → AreTouched (labels_in (insert rows at row)) at true n → row.label ≡ label → after ≡ steps + n →
      IsPlanFor (record { edit = Add boxed; moved = last; changes = changes; evaluated = n }) rows label.order.id (Some label) steps after
  in_plan last lasting edited label steps after is sorted same touched is_label spent =
      made_plan rows rows (insert rows at row) moved row.label.order.id (Some row) (left_all rows row.label.order.id new)
      (joined_some rows at row) (Add boxed) changes n settled numbered_in up_in slots made_in last lasting
      None (Some (ranged row)) label.order.id (Some label) steps after (rw is_row new) (ap (λ (r : Row). r.label.order.id) is_row)
      (λ r s e there id. absurd (new (r.label, contains_map (λ (t : Row). t.label) rows r there, id)))
      (state_new rows row.label.order.id new) (state_come rows at row moved kept) sorted
      (both_same rows moved changes (Some edited) (λ c. (c ≡ edited_change row.label.order.id None (Some (ranged row))) × (None ≢ Some (ranged row))) same
      (some_edited edited row.label.order.id None (Some (ranged row)) is (λ e. cc)))
      (cost_in rows at row n at_most new touched) (ap (λ (l : Label). l.order.id) is_label) (ap (λ (l : Label). Some l) is_label) spent

-- ---- a label goes

module _ (rows : List Row) (at : ℕ) (id : List ℕ) (moved : List Moved) (changes : List Change) (n : ℕ)
    (settled : IsSettled rows) (lt : at < length rows) (here : (d : Row) → (get_or rows at d).label.order.id ≡ id)
    (has : HasId (labels_in rows) id) (slots : AreSettled (remove rows at) moved) where
  numbered_out : AreNumbered (remove rows at)
  numbered_out = numbered_removed rows at (numbered rows settled) lt

  -- without the label that goes the labels are in priority order, with different ids
  pub up_out : IsLabelList (labels_in (remove rows at))
  up_out = rw (map_remove (λ (r : Row). r.label) rows at) (list_remove (labels_in rows) at (let many = length-labels rows in omega arith) settled.in_order)

  made_out : rows_with (Remove id) (moved_rows moved (kept_rows (Remove id) rows)) ≡ moved_rows moved (remove rows at)
  made_out = ap (moved_rows moved) (without_remove_is rows at id settled.in_order lt here)

  last_out : (last : List Moved) → IsLastOf last moved (remove rows at) → IsLastOf last moved (kept_rows (Remove id) rows)
  last_out last lasting = subst (IsLastOf last moved) (sym (without_remove_is rows at id settled.in_order lt here)) lasting

  are_out : AreLeft rows (remove rows at) id
  are_out = left_remove rows at id settled.in_order lt here

  -- the new slots and changes found for a label that goes, with the number of labels touched, are the plan that removes it
  pub out_plan : (last : List Moved) → IsLastOf last moved (remove rows at) → (r : Row) (edited : Change) (own : List ℕ) (steps after : ℕ) → Contains rows r →
      r.label.order.id ≡ id → edited ≡ edited_change id (Some (ranged r)) None → IsStrictlySortedBy (slice_cmp nat_cmp) (map (λ change. change.id) changes) →
      ((c : Change) → Contains changes c ↔ (IsStayChange (remove rows at) moved c ⊎ (Some edited ≡ Some c))) → AreTouched (labels_in rows) at false n → id ≡ own → after ≡ steps + n →
      IsPlanFor (record { edit = Remove id; moved = last; changes = changes; evaluated = n }) rows own None steps after
  out_plan last lasting r edited own steps after there same_id is sorted same touched is_own spent =
      made_plan rows (remove rows at) (remove rows at) moved id None are_out (joined_none (remove rows at) id)
      (Remove id) changes n settled numbered_out up_out slots made_out last (last_out last lasting)
      (Some (ranged r)) None own None steps after has refl
      (λ s t e one two. absurd (let f : ◌≡◌ {A = Option Row} None (Some t) = e in cc))
      (state_there rows r id there same_id) (state_gone rows (remove rows at) moved id are_out) sorted
      (both_same (remove rows at) moved changes (Some edited) (λ c. (c ≡ edited_change id (Some (ranged r)) None) × (Some (ranged r) ≢ None)) same
      (some_edited edited id (Some (ranged r)) None is (λ e. cc)))
      (cost_out rows at id n lt here (left_no_id rows at id settled.in_order lt here) touched) is_own refl spent

-- ---- a label comes in place of another

module _ (rows : List Row) (at to : ℕ) (row : Row) (boxed : Box Row Global) (moved : List Moved) (changes : List Change) (n m : ℕ)
    (settled : IsSettled rows) (lt : at < length rows) (here : (d : Row) → (get_or rows at d).label.order.id ≡ row.label.order.id)
    (has : HasId (labels_in rows) row.label.order.id) (few : length (remove rows at) < 32768) (fresh : IsFresh row.number (remove rows at))
    (low : row.number < 32768) (place : IsPlaceFor (labels_in (remove rows at)) row.label.order to)
    (slots : AreSettled (insert (remove rows at) to row) moved) (kept : (own : Slot) → slot_for row.number own moved ≡ own) (is_row : boxed.value ≡ row) where
  to_most : to ≤ length (remove rows at)
  to_most = let many = length-labels (remove rows at) in let le = place.within in omega arith

  none_left : ¬ (HasId (labels_in (remove rows at)) row.label.order.id)
  none_left = left_no_id rows at row.label.order.id settled.in_order lt here

  up_left : IsLabelList (labels_in (remove rows at))
  up_left = rw (map_remove (λ (r : Row). r.label) rows at) (list_remove (labels_in rows) at (let many = length-labels rows in omega arith) settled.in_order)

  numbered_instead : AreNumbered (insert (remove rows at) to row)
  numbered_instead = numbered_inserted (remove rows at) to row (numbered_removed rows at (numbered rows settled) lt) to_most few fresh low

  up_instead : IsLabelList (labels_in (insert (remove rows at) to row))
  up_instead = rw (map_insert (λ (r : Row). r.label) (remove rows at) to row) (list_insert (labels_in (remove rows at)) to row.label place none_left up_left)

  are_instead : AreLeft rows (remove rows at) row.label.order.id
  are_instead = left_remove rows at row.label.order.id settled.in_order lt here

  made_instead : rows_with (Replace boxed) (moved_rows moved (kept_rows (Replace boxed) rows)) ≡ moved_rows moved (insert (remove rows at) to row)
  made_instead =
      ap (λ (r : Row). with_row r (moved_rows moved (without_id r.label.order.id rows))) is_row
      ∙ ap (λ (rs : List Row). with_row row (moved_rows moved rs)) (without_remove_is rows at row.label.order.id settled.in_order lt here)
      ∙ come_is (remove rows at) to row moved place kept

  last_instead : (last : List Moved) → IsLastOf last moved (remove rows at) → IsLastOf last moved (kept_rows (Replace boxed) rows)
  last_instead last lasting =
      subst (IsLastOf last moved) (sym (ap (λ (r : Row). without_id r.label.order.id rows) is_row ∙ without_remove_is rows at row.label.order.id settled.in_order lt here)) lasting

  own_number : ((d : Row) → (get_or rows at d).number ≡ row.number) → (r s : Row) → Some row ≡ Some s → Contains rows r → r.label.order.id ≡ row.label.order.id → r.number ≡ s.number
  own_number number r s e there id =
      let same : row ≡ s = cc in
      let one : r ≡ get_or rows at r = one_id rows r (get_or rows at r) there (Contains-get_or rows at r lt) settled.in_order (id ∙ sym (here r)) in
      ap (λ (t : Row). t.number) one ∙ number r ∙ ap (λ (t : Row). t.number) same

  -- the new slots and changes found where a label takes another's place, with the number of labels touched, are the plan for that
  pub instead_plan : (last : List Moved) → IsLastOf last moved (remove rows at) → (r : Row) (edited : Option Change) (label : Label) (steps after : ℕ) →
      Contains rows r → r.label.order.id ≡ row.label.order.id → ((d : Row) → (get_or rows at d).number ≡ row.number) → IsChangeBetween r row edited →
      IsStrictlySortedBy (slice_cmp nat_cmp) (map (λ change. change.id) changes) → ((c : Change) → Contains changes c ↔ (IsStayChange (remove rows at) moved c ⊎ (edited ≡ Some c))) →
      AreTouched (labels_in rows) at false n → AreTouched (labels_in (insert (remove rows at) to row)) to true m → row.label ≡ label → after ≡ steps + (n + m) →
      IsPlanFor (record { edit = Replace boxed; moved = last; changes = changes; evaluated = n + m }) rows label.order.id (Some label) steps after
  instead_plan last lasting r edited label steps after there same_id number between sorted same gone come is_label spent =
      made_plan rows (remove rows at) (insert (remove rows at) to row) moved row.label.order.id (Some row) are_instead (joined_some (remove rows at) to row)
      (Replace boxed) changes (n + m) settled numbered_instead up_instead slots made_instead last (last_instead last lasting)
      (Some (ranged r)) (Some (ranged row)) label.order.id (Some label) steps after (rw is_row has) (ap (λ (t : Row). t.label.order.id) is_row) (own_number number)
      (state_there rows r row.label.order.id there same_id) (state_come (remove rows at) to row moved kept) sorted
      (both_same (remove rows at) moved changes edited (λ c. (c ≡ edited_change row.label.order.id (Some (ranged r)) (Some (ranged row))) × (Some (ranged r) ≢ Some (ranged row))) same
      (between_edited r row row.label.order.id edited refl between))
      (cost_both rows at to row n m lt here to_most gone come) (ap (λ (l : Label). l.order.id) is_label) (ap (λ (l : Label). Some l) is_label) spent

-- ---- the label that goes

-- settled rows have labels in priority order, also without the one at a place
pub up_removed : (rows : List Row) (at : ℕ) → IsSettled rows → at < length rows → IsLabelList (labels_in (remove rows at))
up_removed rows at settled lt = rw (map_remove (λ (r : Row). r.label) rows at) (list_remove (labels_in rows) at (let many = length-labels rows in omega arith) settled.in_order)

-- once a row is removed, its number is free
pub number_gone : (rows : List Row) (at : ℕ) (r : Row) → IsSettled rows → at < length rows → r ≡ get_or rows at r → IsFresh r.number (remove rows at)
number_gone rows at r settled lt read there =
    let many = length-map rows (λ (t : Row). t.number) in
    removed_gone (numbers_in rows) at 0 (omega arith) settled.own_numbers (rw (map_read (λ (t : Row). t.number) rows at r 0 lt read, ← map_remove (λ (t : Row). t.number) rows at) there)

-- each settled row has a number below 32,768
pub number_low : (rows : List Row) (at : ℕ) (r : Row) → IsSettled rows → at < length rows → r ≡ get_or rows at r → r.number < 32768
number_low rows at r settled lt read = low_number rows at r (low_of_rows rows settled.low_numbers) lt read

-- where no label has the id of the row that comes, none has the id of the change between it and the old row
pub between_own : (old new : Row) (edited : Option Change) (labels : List Label) → IsChangeBetween old new edited → ¬ (HasId labels new.label.order.id) → IfSome edited (λ c. ¬ (HasId labels c.id))
between_own old new None labels h none = tt
between_own old new (Some c) labels h none = rw h.1 none

-- steps of two passes
pub spent_both : (before mid after n m : ℕ) → mid ≡ before + n → after ≡ mid + m → after ≡ before + (n + m)
spent_both before mid after n m a b = omega arith
