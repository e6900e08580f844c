use Rattle.std.proofs.Common.{◌-◌, length}
use Rattle.std.specs.List.Sorted.{IsPermutation}
use Rattle.ml_cert.proofs.arrange.arrange.Given as goal

abbrev pub invariant-loop-from : goal.invariant-loop-from
invariant-loop-from l = IsPermutation l.fn.spots l.spots

abbrev pub decreases-loop-from : goal.decreases-loop-from
decreases-loop-from l = length l.spots - l.from
