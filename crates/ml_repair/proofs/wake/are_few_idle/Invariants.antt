use Rattle.std.proofs.Common.{◌-◌, ◌≤◌}
use Rattle.ml_repair.proofs.wake.are_few_idle.Given as goal

abbrev pub invariant-loop-at : goal.invariant-loop-at
invariant-loop-at l = l.idle ≤ l.at

abbrev pub decreases-loop-at : goal.decreases-loop-at
decreases-loop-at l = l.many - l.at
