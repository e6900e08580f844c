use Rattle.std.proofs.Common.{◌≡◌, take}
use Rattle.ml_store.specs.Boxes.{unboxed}
use Rattle.ml_store.specs.Rows.{untils_in}
use Rattle.ml_store.proofs.bulk.ends_of.Given as goal

abbrev pub invariant-loop-row : goal.invariant-loop-row
invariant-loop-row l = l.by_number.items ≡ untils_in (take l.row-index (unboxed l.rows))
