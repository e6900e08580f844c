use Rattle.std.proofs.Common.{◌≡◌, ◌+◌}
use Rattle.ml_grid.specs.Count.{entries_below}
use Rattle.ml_grid.specs.Entry.{Adds}
use Rattle.ml_grid.proofs.Partial.{IsEntryBelow}
use Rattle.ml_grid.proofs.keep.add_all.Given as goal

abbrev pub invariant-loop-band : goal.invariant-loop-band
invariant-loop-band l = record {
  entries : Adds (IsEntryBelow l.number l.label l.until l.band) l.fn.tree.entries l.tree.entries;
  spare : l.tree.spare + entries_below l.label l.band ≡ l.fn.tree.spare;
}
