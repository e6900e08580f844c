use Rattle.std.proofs.Common.{◌+◌, ◌*◌}
use Rattle.ml_store.specs.Tiers.{order_of}
use Rattle.ml_store.proofs.Holes.{IsCarried}
use Rattle.ml_store.proofs.ring.pass_on.Given as goal

abbrev pub invariant-loop-before : goal.invariant-loop-before
invariant-loop-before l = IsCarried (order_of l.fn.heads l.fn.cells) l.cells l.cell_of l.heads l.number l.hole (128 * l.from + 127)
    (128 * l.before + 127)
