use Rattle.ml_grid.specs.Found.{Finds}
use Rattle.ml_grid.proofs.Partial.{IsAmongFirstFrom}
use Rattle.ml_grid.proofs.find.find_cells_from.Given as goal

abbrev pub invariant-loop-i : goal.invariant-loop-i
invariant-loop-i l = Finds (IsAmongFirstFrom l.cells l.scale l.i) l.tree.entries l.fn.found l.found
