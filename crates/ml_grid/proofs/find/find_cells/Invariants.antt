use Rattle.ml_grid.specs.Found.{Finds}
use Rattle.ml_grid.proofs.Partial.{IsAmongFirst}
use Rattle.ml_grid.proofs.find.find_cells.Given as goal

abbrev pub invariant-loop-i : goal.invariant-loop-i
invariant-loop-i l = Finds (IsAmongFirst l.cells l.i) l.tree.entries l.fn.found l.found
