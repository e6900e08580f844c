use Rattle.ml_river.specs.Seen.{IsBestBefore}
use Rattle.ml_river.proofs.runs.widest_run.Given as goal

abbrev pub invariant-loop-i : goal.invariant-loop-i
invariant-loop-i l = IsBestBefore l.lines l.i 0 l.best
