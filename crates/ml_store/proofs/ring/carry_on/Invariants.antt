use Rattle.ml_store.specs.Tiers.{order_of}
use Rattle.ml_store.proofs.Holes.{IsCarried}
use Rattle.ml_store.proofs.ring.carry_on.Given as goal

abbrev pub invariant-loop : goal.invariant-loop
invariant-loop l = IsCarried (order_of l.heads l.fn.cells) l.cells l.cell_of l.heads l.number l.hole l.from l.counter
