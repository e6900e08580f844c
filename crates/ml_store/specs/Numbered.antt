-- Rows with low numbers of their own.
use Rattle.std.specs.Prelude.{◌<◌, ◌≤◌, List, length, All}
use Rattle.ml_ratio.specs.Limits.{most_labels}
use Rattle.ml_store.specs.Rows.{numbers_in, HaveOwnNumbers}
use Rattle.ml_store.specs.declared.row.Row.{Row}

-- there are not too many rows, and each has a low number of its own
pub record AreNumbered (rows : List Row) : Type 0 where
  pub few : length rows ≤ most_labels
  pub differ : HaveOwnNumbers rows
  pub low : All (λ n. n < most_labels) (numbers_in rows)
