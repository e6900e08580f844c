use Rattle.std.proofs.Common.{take}
use Rattle.ml_store.specs.Boxes.{unboxed}
use Rattle.ml_store.specs.Store.{AreWithin}
use Rattle.ml_store.proofs.bulk.outline_of.Given as goal

abbrev pub invariant-loop-row : goal.invariant-loop-row
invariant-loop-row l = AreWithin l.outline (take l.row-index (unboxed l.rows))
