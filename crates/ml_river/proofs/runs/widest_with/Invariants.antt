use Rattle.std.proofs.Common.{◌≤◌, length, ◌-◌}
use Rattle.ml_river.specs.Seen.{IsBestBefore}
use Rattle.ml_river.proofs.RunLemmas.{AtTurn}
use Rattle.ml_river.proofs.runs.widest_with.Given as goal

abbrev pub invariant-loop-from : goal.invariant-loop-from
invariant-loop-from l = IsBestBefore l.lines l.i l.from l.best × AtTurn l.line l.from × (l.from ≤ length l.line)

abbrev pub decreases-loop-from : goal.decreases-loop-from
decreases-loop-from l = length l.line - l.from
