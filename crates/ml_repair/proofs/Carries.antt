-- How a plan's rows come about, step by step.
use Rattle.std.proofs.Common.{◌≡◌, ℕ, suc, ◌+◌, ◌<◌, ◌≤◌, List, [], ◌∷◌, length, get_or, Contains, inl, inr, refl, sym, ap, ◌∙◌, subst, arith, Bool, true, false}
use Rattle.std.specs.Prelude.{insert, All, if◌then◌else◌}
use Rattle.std.specs.Ordering.{is_lt}
use Rattle.std.proofs.lemmas.Bool.{cases_lt}
use Rattle.std.proofs.lemmas.List.{get_or_default, length-map}
use Rattle.std.proofs.lemmas.List.Edits.{length-insert, get_or-insert_below, get_or-insert_at, get_or-insert_above}
use Rattle.ml_cone.specs.Label.{IsLabelList}
use Rattle.ml_cone.specs.Order.{order_cmp}
use Rattle.ml_cone.specs.declared.label.Label.{Label}
use Rattle.ml_store.specs.Rows.{numbers_in, labels_in, HasId, AreDifferent}
use Rattle.ml_store.specs.declared.row.Row.{Row}
use Rattle.ml_watch.specs.declared.change.Change.{Change}
use Rattle.ml_store.specs.Rows.{Stored}
use Rattle.ml_repair.specs.Carry.{CanComeIn, HasRoomIn, gone_count}
use Rattle.ml_repair.specs.Plan.{Planned, HasRoom, room_of, moved_rows, moved_pairs, with_row, rows_with, kept_rows, planned_rows}
use Rattle.ml_repair.specs.declared.edit.LabelEdit.{LabelEdit}
use Rattle.ml_repair.specs.declared.edit.LabelEdit.TheVariants.{Add, Remove, Replace}
use Rattle.ml_repair.specs.Settled.{IsSettled}
use Rattle.ml_store.specs.declared.moved.Moved.{Moved}
use Rattle.ml_repair.proofs.Edited.{remove_insert}
use Rattle.ml_repair.proofs.Placing.{list_remove}
use Rattle.ml_repair.proofs.Present.{length-labels}
use Rattle.ml_ratio.proofs.lemmas.Lists.{map_insert}

-- ---- the label that comes

-- a row that goes to its place in priority order comes in at some place of the list
pub with_row_some : (row : Row) (rows : List Row) → (p : ℕ) × (p ≤ length rows) × (with_row row rows ≡ insert rows p row)
with_row_some row [] = (0, omega arith, refl)
with_row_some row (r ∷ rows) = go (is_lt (order_cmp r.label.order row.label.order)) refl (with_row_some row rows)
  where
    go : (b : Bool) → is_lt (order_cmp r.label.order row.label.order) ≡ b → ((p : ℕ) × (p ≤ length rows) × (with_row row rows ≡ insert rows p row)) →
        (p : ℕ) × (p ≤ length (r ∷ rows)) × (with_row row (r ∷ rows) ≡ insert (r ∷ rows) p row)
    go true e s =
        let le : s.0 ≤ length rows = s.1 in
        (suc s.0, omega arith, ap (λ (b : Bool). if b then r ∷ with_row row rows else row ∷ (r ∷ rows)) e ∙ ap (λ rs. r ∷ rs) s.2)
    go false e s = (0, omega arith, ap (λ (b : Bool). if b then r ∷ with_row row rows else row ∷ (r ∷ rows)) e)

-- a number that stands once is not there besides
differ_once : (xs : List ℕ) (p x : ℕ) → p ≤ length xs → AreDifferent (insert xs p x) → ¬ (Contains xs x)
differ_once xs p x le differ there =
    let n = length-insert xs p x le in
    let k : ℕ = there.0 in
    let lt : k < length xs = there.1 in
    elim (cases_lt k p) [
      | inl low ↦ differ k p x low (omega arith) (get_or-insert_below xs p x x k low le ∙ there.2 ∙ sym (get_or-insert_at xs p x x le))
      | inr high ↦ differ p (k + 1) x (omega arith) (omega arith) (get_or-insert_at xs p x x le ∙ sym there.2 ∙ sym (get_or-insert_above xs p x x k high le))
    ]

-- in a list in priority order no other label has the id of the label at a place
pub id_once : (labels : List Label) (p : ℕ) (a : Label) → p ≤ length labels → IsLabelList (insert labels p a) → ¬ (HasId labels a.order.id)
id_once labels p a le up has =
    let n = length-insert labels p a le in
    let k : ℕ = has.1.0 in
    let lt : k < length labels = has.1.1 in
    let is : (get_or labels k a).order.id ≡ a.order.id = ap (λ (l : Label). l.order.id) (get_or_default labels k a has.0 lt ∙ has.1.2) ∙ has.2 in
    elim (cases_lt k p) [
      | inl low ↦ (up k p a low (omega arith)).1 (ap (λ (l : Label). l.order.id) (get_or-insert_below labels p a a k low le)
          ∙ is ∙ sym (ap (λ (l : Label). l.order.id) (get_or-insert_at labels p a a le)))
      | inr high ↦ (up p (k + 1) a (omega arith) (omega arith)).1 (ap (λ (l : Label). l.order.id) (get_or-insert_at labels p a a le)
          ∙ sym is ∙ sym (ap (λ (l : Label). l.order.id) (get_or-insert_above labels p a a k high le)))
    ]

module _ (row : Row) (rows : List Row) (settled : IsSettled (with_row row rows)) where
  -- the labels beside the row that came are in priority order, with different ids
  pub come_up : IsLabelList (labels_in rows)
  come_up =
      let s = with_row_some row rows in
      let many = length-labels rows in
      let le : s.0 ≤ length rows = s.1 in
      let up : IsLabelList (insert (labels_in rows) s.0 row.label) = rw (s.2, map_insert (λ (t : Row). t.label) rows s.0 row) at settled.in_order in
      let n = length-insert (labels_in rows) s.0 row.label (omega arith) in
      subst IsLabelList (remove_insert (labels_in rows) s.0 row.label (omega arith)) (list_remove (insert (labels_in rows) s.0 row.label) s.0 (omega arith) up)

  -- the row may come in: its number is low, and no other row has its number or its id
  pub can_come : CanComeIn row rows
  can_come =
      let s = with_row_some row rows in
      let many = length-labels rows in
      let le : s.0 ≤ length rows = s.1 in
      let numbers = length-map rows (λ (t : Row). t.number) in
      let long = length-insert rows s.0 row s.1 in
      record {
        fresh = differ_once (numbers_in rows) s.0 row.number (omega arith) (rw (s.2, map_insert (λ (t : Row). t.number) rows s.0 row) at settled.own_numbers);
        low = (let all : All (λ r. r.number < 32768) (insert rows s.0 row) = rw s.2 at settled.low_numbers in let h = all s.0 row (omega arith) in
            let e : (get_or (insert rows s.0 row) s.0 row).number ≡ row.number = ap (λ (t : Row). t.number) (get_or-insert_at rows s.0 row row s.1) in omega arith);
        new_id = id_once (labels_in rows) s.0 row.label (omega arith) (rw (s.2, map_insert (λ (t : Row). t.label) rows s.0 row) at settled.in_order);
      }

-- ---- room

-- where a plan had room, its row has room once the old row is out and the new slots are set
pub carried_room : (edit : LabelEdit) (moved : List Moved) (changes : List Change) (n : ℕ) (old mid last : Stored) →
    HasRoom (room_of (record { edit = edit; moved = moved; changes = changes; evaluated = n })) old →
    mid.labels ≡ old.labels + gone_count edit → old.cells ≤ mid.cells → old.blocks ≤ mid.blocks → last.labels ≡ mid.labels →
    last.cells ≡ mid.cells → mid.blocks ≤ last.blocks + moved_pairs moved → HasRoomIn edit last
carried_room (Add row) moved changes n old mid last room l1 c1 b1 l2 c2 b2 =
    let l = room.labels in let c = room.cells in let b = room.blocks in
    record { labels = omega arith; cells = omega arith; blocks = omega arith }
carried_room (Remove id) moved changes n old mid last room l1 c1 b1 l2 c2 b2 = tt
carried_room (Replace row) moved changes n old mid last room l1 c1 b1 l2 c2 b2 =
    let l = room.labels in let c = room.cells in let b = room.blocks in
    record { labels = omega arith; cells = omega arith; blocks = omega arith }

-- where a plan had room, the pairs of its new slots have room once the old row is out
pub moved_room : (edit : LabelEdit) (moved : List Moved) (changes : List Change) (n : ℕ) (old mid : Stored) →
    HasRoom (room_of (record { edit = edit; moved = moved; changes = changes; evaluated = n })) old → old.blocks ≤ mid.blocks → moved_pairs moved ≤ mid.blocks
moved_room edit moved changes n old mid room le = let b = room.blocks in omega arith

-- the rows after a plan come about in three steps: some rows stay, they get their new slots, the row comes in
pub planned_parts : (plan : Planned) (rows : List Row) → planned_rows plan rows ≡ rows_with plan.edit (moved_rows plan.moved (kept_rows plan.edit rows))
unfolding planned_rows
planned_parts plan rows = refl
