use Rattle.std.proofs.Common.{◌≡◌, ℕ, ◌≤◌, ◌-◌, ◌+◌, List, ◌++◌, length}
use Rattle.ml_io.specs.Takes.{Draws}
use Rattle.ml_request.proofs.reader.read_body.Given as goal

abbrev pub invariant-pieces : goal.invariant-pieces
invariant-pieces g l = record {
  taken : List ℕ;
  takes : Draws (g.S.Source.left l.fn.source) (g.S.Source.left l.source) taken;
  so_far : l.fn.held ++ taken ≡ l.body.items ++ l.held;
  short : length l.body.items ≤ l.length;
  same : g.S.Source.faults l.source ≡ g.S.Source.faults l.fn.source;
}

abbrev pub decreases-pieces : goal.decreases-pieces
decreases-pieces g l = l.length - (length l.body.items + length l.held)
