use Rattle.std.proofs.Common.{◌≡◌}
use Rattle.ml_grid.specs.Count.{cell_in}
use Rattle.ml_grid.specs.Entry.{Adds, AreApart}
use Rattle.ml_grid.specs.Placed.{IsEntryAmong}
use Rattle.ml_grid.specs.Marks.{end_by, marked}
use Rattle.ml_grid.proofs.marks.mark_cells.Given as goal

abbrev pub invariant-loop-i : goal.invariant-loop-i
invariant-loop-i l = record {
  cell : l.cell ≡ cell_in l.cells l._i;
  apart : AreApart (marked l.ends l.marks.items);
  entries : Adds (IsEntryAmong l.number (end_by l.ends l.number) l.cells l._i) (marked l.ends l.fn.marks.items) (marked l.ends l.marks.items);
}
