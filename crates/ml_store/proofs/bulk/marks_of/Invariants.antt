use Rattle.std.proofs.Common.{take}
use Rattle.ml_grid.specs.Entry.{AreApart}
use Rattle.ml_grid.specs.Marks.{marked}
use Rattle.ml_store.specs.Boxes.{unboxed}
use Rattle.ml_store.specs.Store.{IsEntryIn, IsIndex}
use Rattle.ml_store.proofs.bulk.marks_of.Given as goal

abbrev pub invariant-loop-row : goal.invariant-loop-row
invariant-loop-row l = record {
  apart : AreApart (marked l.ends l.marks.items);
  kept : IsIndex IsEntryIn (take l.row-index (unboxed l.rows)) (marked l.ends l.marks.items);
}
