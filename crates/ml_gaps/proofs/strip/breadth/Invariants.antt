use Rattle.ml_ratio.specs.World.{IsInWorld}
use Rattle.ml_gaps.proofs.strip.breadth.Given as goal

abbrev pub invariant-loop-label : goal.invariant-loop-label
invariant-loop-label l = record {
  least : IsInWorld l.least;
  most : IsInWorld l.most;
}
