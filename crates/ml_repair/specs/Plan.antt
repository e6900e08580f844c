-- Plans of an edit, and what they make of the live labels.
use Rattle.std.specs.Prelude.{ℕ, ◌≡◌, ◌≢◌, ◌+◌, ◌≤◌, not, List, [], ◌∷◌, filter, Contains, Option, if◌then◌else◌}
use Rattle.std.specs.Str.{bytes_eq}
use Rattle.std.specs.Ordering.{is_lt}
use Rattle.ml_cone.specs.Order.{order_cmp}
use Rattle.ml_cone.specs.declared.label.Label.{Label}
use Rattle.ml_grid.specs.Count.{entry_count}
use Rattle.ml_watch.specs.declared.change.Change.{Change}
pub use Rattle.ml_store.specs.Moved.{slot_for, moved_row, moved_rows, moved_pairs}
use Rattle.ml_store.specs.Pairs.{pair_count}
use Rattle.ml_store.specs.Rows.{labels_in, slots_in, AreDifferent, HasId, Stored}
use Rattle.ml_store.specs.declared.moved.Moved.{Moved}
use Rattle.ml_store.specs.declared.row.Row.{Row}
use Rattle.ml_repair.specs.Changes.{AreChanges}
use Rattle.ml_repair.specs.Cost.{IsCost}
use Rattle.ml_repair.specs.Edit.{IsEdited}
use Rattle.ml_repair.specs.Moves.{numbers_of}
use Rattle.ml_repair.specs.Settled.{IsSettled}
use Rattle.ml_repair.specs.declared.edit.LabelEdit.{LabelEdit}
use Rattle.ml_repair.specs.declared.edit.LabelEdit.TheVariants.{Add, Remove, Replace}
use Rattle.ml_repair.specs.declared.room.Room.{Room}

-- what contracts see of a plan: its edit, the new slots of labels that stay, by number, what it changes, and how many labels were evaluated for it
pub record Planned : Type 0 where
  pub edit : LabelEdit
  pub moved : List Moved
  pub changes : List Change
  pub evaluated : ℕ

-- the edit can be made: its label is new, or there is one with its id
abbrev pub CanBeMade : LabelEdit → List Row → Type 0
CanBeMade (Add row) rows = ¬ (HasId (labels_in rows) row.value.label.order.id)
CanBeMade (Remove id) rows = HasId (labels_in rows) id
CanBeMade (Replace row) rows = HasId (labels_in rows) row.value.label.order.id

-- the rows but that with the id
abbrev pub without_id : List ℕ → List Row → List Row
without_id id rows = filter (λ r. not (bytes_eq r.label.order.id id)) rows

-- the rows that stay
abbrev pub kept_rows : LabelEdit → List Row → List Row
kept_rows (Add row) rows = rows
kept_rows (Remove id) rows = without_id id rows
kept_rows (Replace row) rows = without_id row.value.label.order.id rows

-- the rows, and one more in its place in priority order
abbrev pub with_row : Row → List Row → List Row
with_row row [] = row ∷ []
with_row row (r ∷ rows) = if is_lt (order_cmp r.label.order row.label.order) then r ∷ with_row row rows else row ∷ (r ∷ rows)

-- the rows, and that which comes, if one does
abbrev pub rows_with : LabelEdit → List Row → List Row
rows_with (Add row) rows = with_row row.value rows
rows_with (Remove id) rows = rows
rows_with (Replace row) rows = with_row row.value rows

-- the rows after the plan: those that stay with their new slots, and that which comes
unfoldable pub planned_rows : Planned → List Row → List Row
planned_rows plan rows = rows_with plan.edit (moved_rows plan.moved (kept_rows plan.edit rows))

-- the id of the label that an edit brings or takes out
abbrev pub edited_id : LabelEdit → List ℕ
edited_id (Add row) = row.value.label.order.id
edited_id (Remove id) = id
edited_id (Replace row) = row.value.label.order.id

-- a label that stays has its number, and one that comes in place of another has that of the other
abbrev pub KeepNumbers : List Row → List Row → Type 0
KeepNumbers rows after = (r s : Row) → Contains rows r → Contains after s → r.label.order.id ≡ s.label.order.id → r.number ≡ s.number

-- the slot is another one than that of the row with its number, which is one of these
abbrev pub IsNewIn : List Row → Moved → Type 0
IsNewIn rows m = (r : Row) × Contains rows r × (r.number ≡ m.number) × (r.slot ≢ m.slot)

-- each of these rows with a new slot has one, and nothing else does: so a plan's room is what its edit needs
pub record AreNewIn (rows : List Row) (moved : List Moved) : Type 0 where
  pub once : AreDifferent (numbers_of moved)
  pub new : (m : Moved) → Contains moved m → IsNewIn rows m

-- the plan is of these rows: its edit can be made; its new slots are those of labels that stay and get another one; its slots
-- are those of the labels after it, which keep their numbers; and it tells just what that changes and costs
pub record IsPlanOf (plan : Planned) (rows : List Row) : Type 0 where
  pub possible : CanBeMade plan.edit rows
  pub moved : AreNewIn (kept_rows plan.edit rows) plan.moved
  pub settled : IsSettled (planned_rows plan rows)
  pub numbers : KeepNumbers rows (planned_rows plan rows)
  pub changes : AreChanges (labels_in rows) (slots_in rows) (labels_in (planned_rows plan rows)) (slots_in (planned_rows plan rows)) plan.changes
  pub cost : IsCost (labels_in rows) (labels_in (planned_rows plan rows)) (edited_id plan.edit) plan.evaluated

-- the plan is of these rows, and makes of their labels those but any with the id, and that which comes, if one does; with the changes and the cost of that, and so many steps were spent for it
pub record IsPlanFor (plan : Planned) (rows : List Row) (id : List ℕ) (come : Option Label) (steps steps_after : ℕ) : Type 0 where
  pub of_state : IsPlanOf plan rows
  pub labels : IsEdited id come (labels_in rows) (labels_in (planned_rows plan rows))
  pub changes : AreChanges (labels_in rows) (slots_in rows) (labels_in (planned_rows plan rows)) (slots_in (planned_rows plan rows)) plan.changes
  pub cost : IsCost (labels_in rows) (labels_in (planned_rows plan rows)) id plan.evaluated
  pub spent : steps_after ≡ steps + plan.evaluated

-- how many more labels there are after an edit
abbrev pub labels_needed : LabelEdit → ℕ
labels_needed (Add row) = 1
labels_needed (Remove id) = 0
labels_needed (Replace row) = 0

-- how many entries of the grid come with an edit
abbrev pub cells_needed : LabelEdit → ℕ
cells_needed (Add row) = entry_count row.value.label
cells_needed (Remove id) = 0
cells_needed (Replace row) = entry_count row.value.label

-- how many pairs come with the label of an edit
abbrev pub pairs_needed : LabelEdit → ℕ
pairs_needed (Add row) = pair_count row.value.slot.blocker
pairs_needed (Remove id) = 0
pairs_needed (Replace row) = pair_count row.value.slot.blocker

-- the room that a plan may need at once; what goes gives its own room besides
abbrev pub room_of : Planned → Room
room_of plan = record {
  labels = labels_needed plan.edit;
  cells = cells_needed plan.edit;
  blocks = moved_pairs plan.moved + pairs_needed plan.edit;
}

-- there is so much room
pub record HasRoom (room : Room) (held : Stored) : Type 0 where
  pub labels : room.labels ≤ held.labels
  pub cells : room.cells ≤ held.cells
  pub blocks : room.blocks ≤ held.blocks

-- the room did not shrink
pub record KeepsRoom (old new : Stored) : Type 0 where
  pub labels : old.labels ≤ new.labels
  pub cells : old.cells ≤ new.cells
  pub blocks : old.blocks ≤ new.blocks
