use Rattle.std.proofs.Common.{◌≡◌, ◌∷◌, ◌-◌, ◌+◌, ◌≤◌, []}
use Rattle.std.specs.Prelude.{replicate}
use Rattle.ml_pass.proofs.row.pieces_of.Given as goal

abbrev pub invariant-loop-piece : goal.invariant-loop-piece
invariant-loop-piece l = (l.pieces ≡ l.id ∷ replicate (l._piece - 1) []) × (l._piece ≤ 1 + (l.count - 1))
