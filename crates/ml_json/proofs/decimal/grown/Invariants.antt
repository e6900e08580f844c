use Rattle.std.proofs.Common.{◌≡◌, ◌≤◌, ◌^◌, ◌*◌, min}
use Rattle.ml_json.proofs.decimal.grown.Given as goal

abbrev pub invariant-loop-left : goal.invariant-loop-left
invariant-loop-left l = record {
  same : min (l.front * 10 ^ l.zeros) l.most ≡ min (l.number * 10 ^ l.left) l.most;
  within : l.number ≤ l.most;
}

abbrev pub decreases-loop-left : goal.decreases-loop-left
decreases-loop-left l = l.left
