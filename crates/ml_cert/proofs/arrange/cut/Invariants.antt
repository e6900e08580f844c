use Rattle.std.proofs.Common.{◌-◌, ◌≤◌, length}
use Rattle.ml_cert.specs.Strips.{AreCut}
use Rattle.ml_cert.proofs.arrange.cut.Given as goal

abbrev pub invariant-loop-from : goal.invariant-loop-from
invariant-loop-from l = record {
  within : l.from ≤ length l.spots;
  cut : AreCut l.labels l.spots l.strips l.many l.from;
}

abbrev pub decreases-loop-from : goal.decreases-loop-from
decreases-loop-from l = length l.spots - l.from
