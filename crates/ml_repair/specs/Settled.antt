use Rattle.std.specs.Prelude.{◌<◌, ◌≤◌, List, length, All}
use Rattle.ml_ratio.specs.Limits.{most_labels}
use Rattle.ml_cone.specs.Label.{IsLabelList}
use Rattle.ml_cone.specs.Slots.{AreSlots}
use Rattle.ml_store.specs.Rows.{labels_in, slots_in, number_at, HaveOwnNumbers}
use Rattle.ml_store.specs.declared.row.Row.{Row}

-- what always holds of live labels: there are at most 32,768, in priority order with different ids, each with a number of its own, and their slots are the longest choice with its blockers by number
pub record IsSettled (rows : List Row) : Type 0 where
  pub few : length rows ≤ most_labels
  pub in_order : IsLabelList (labels_in rows)
  pub own_numbers : HaveOwnNumbers rows
  pub low_numbers : All (λ r. r.number < most_labels) rows
  pub slots : AreSlots (number_at rows) (labels_in rows) (slots_in rows)
