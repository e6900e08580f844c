use Rattle.ml_grid.specs.Entry.{Adds, AreApart}
use Rattle.ml_grid.proofs.Partial.{IsEntryBelow}
use Rattle.ml_grid.specs.Marks.{end_by, marked}
use Rattle.ml_grid.proofs.marks.mark_all.Given as goal

abbrev pub invariant-loop-band : goal.invariant-loop-band
invariant-loop-band l = record {
  apart : AreApart (marked l.ends l.marks.items);
  entries : Adds (IsEntryBelow l.number l.label (end_by l.ends l.number) l.band) (marked l.ends l.fn.marks.items) (marked l.ends l.marks.items);
}
