use Rattle.std.proofs.Common.{◌≡◌, ◌+◌, ◌≤◌, drop}
use Rattle.ml_repair.specs.Plan.{moved_pairs}
use Rattle.ml_repair.proofs.plan.pairs_for_moved.Given as goal

abbrev pub invariant-loop-m : goal.invariant-loop-m
invariant-loop-m l = record {
  rest : l.count + moved_pairs (drop l.m-index l.moved) ≡ moved_pairs l.moved;
  low : l.count ≤ l.m-index;
}
