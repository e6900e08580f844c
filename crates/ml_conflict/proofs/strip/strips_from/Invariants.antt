use Rattle.std.proofs.Common.{◌≡◌, ◌<◌, [], length}
use Rattle.std.specs.Prelude.{All}
use Rattle.ml_conflict.proofs.strip.strips_from.Given as goal

abbrev pub invariant-loop-i : goal.invariant-loop-i
invariant-loop-i l = record {
  empty : All (λ strip. strip.spots.items ≡ []) l.strips.items;
  some : 0 < l.i → 0 < length l.strips.items;
}
