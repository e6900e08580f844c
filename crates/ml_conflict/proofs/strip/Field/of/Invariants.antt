use Rattle.std.proofs.Common.{◌≡◌, length}
use Rattle.ml_conflict.proofs.strip.Field.of.Given as goal

abbrev pub invariant-loop-label : goal.invariant-loop-label
invariant-loop-label l = length l.corners.items ≡ l.label-index
