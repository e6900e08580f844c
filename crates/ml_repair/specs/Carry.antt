-- What carrying out a plan needs.
use Rattle.std.specs.Prelude.{ℕ, ◌<◌, ◌≤◌, List, ⊤}
use Rattle.ml_ratio.specs.Limits.{most_labels}
use Rattle.ml_grid.specs.Count.{entry_count}
use Rattle.ml_store.specs.Pairs.{pair_count}
use Rattle.ml_store.specs.Rows.{labels_in, HasId, IsFresh, Stored}
use Rattle.ml_store.specs.declared.row.Row.{Row}
use Rattle.ml_repair.specs.declared.edit.LabelEdit.{LabelEdit}
use Rattle.ml_repair.specs.declared.edit.LabelEdit.TheVariants.{Add, Remove, Replace}

-- the row has a number and an id that none of the rows has
pub record CanComeIn (row : Row) (rows : List Row) : Type 0 where
  pub fresh : IsFresh row.number rows
  pub low : row.number < most_labels
  pub new_id : ¬ (HasId (labels_in rows) row.label.order.id)

-- how many labels an edit takes out
abbrev pub gone_count : LabelEdit → ℕ
gone_count (Add row) = 0
gone_count (Remove id) = 1
gone_count (Replace row) = 1

-- there is room for a row
pub record HasRoomFor (row : Row) (held : Stored) : Type 0 where
  pub labels : 0 < held.labels
  pub cells : entry_count row.label ≤ held.cells
  pub blocks : pair_count row.slot.blocker ≤ held.blocks

-- there is room for what an edit brings
abbrev pub HasRoomIn : LabelEdit → Stored → Type 0
HasRoomIn (Add row) held = HasRoomFor row.value held
HasRoomIn (Remove id) held = ⊤
HasRoomIn (Replace row) held = HasRoomFor row.value held
