use Rattle.ml_store.proofs.Shelves.{AreLeft}
use Rattle.ml_store.proofs.shelf.Shelf.of.Given as goal

abbrev pub invariant-loop-row : goal.invariant-loop-row
invariant-loop-row l = AreLeft l.fn.rows.items l.rows.items l.places.items

abbrev pub decreases-loop-row : goal.decreases-loop-row
decreases-loop-row l = goal.left-loop-row l
