use Rattle.std.proofs.Common.{◌≡◌, ◌+◌}
use Rattle.ml_ratio.specs.Quotient.{worth}
use Rattle.ml_conflict.proofs.Evaluating.{Evaluated}
use Rattle.ml_conflict.proofs.rivals.evaluate.Given as goal

abbrev pub invariant-loop-k : goal.invariant-loop-k
invariant-loop-k g l = record {
  spent : l.steps ≡ l.fn.steps + 1;
  so_far : Evaluated l.low (g.R.RivalList.rivals l.rivals) l.k (worth l.end) l.blocker;
}
