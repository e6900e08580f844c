use Rattle.ml_grid.specs.Found.{HasEntry}
use Rattle.ml_grid.proofs.Partial.{IsAmongFirstFrom}
use Rattle.ml_grid.proofs.find.has_in_cells.Given as goal

abbrev pub invariant-loop-i : goal.invariant-loop-i
invariant-loop-i l = ¬ (HasEntry (IsAmongFirstFrom l.cells l.scale l.i) l.tree.entries)
