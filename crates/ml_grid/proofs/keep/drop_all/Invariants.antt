use Rattle.std.proofs.Common.{◌≡◌, ◌+◌}
use Rattle.ml_grid.specs.Count.{entries_below}
use Rattle.ml_grid.specs.Entry.{LosesEntries}
use Rattle.ml_grid.proofs.Partial.{IsEntryBelow}
use Rattle.ml_grid.proofs.keep.drop_all.Given as goal

abbrev pub invariant-loop-band : goal.invariant-loop-band
invariant-loop-band l = record {
  entries : LosesEntries (IsEntryBelow l.number l.label l.until l.band) l.fn.tree.entries l.tree.entries;
  spare : l.tree.spare ≡ l.fn.tree.spare + entries_below l.label l.band;
}
