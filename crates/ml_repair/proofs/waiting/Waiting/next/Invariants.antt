use Rattle.std.proofs.Common.{◌-◌, ◌≤◌}
use Rattle.ml_repair.specs.Waiting.{NoneWaits, waiting_in}
use Rattle.ml_repair.proofs.waiting.Waiting.next.Given as goal

abbrev pub invariant-loop-at : goal.invariant-loop-at
invariant-loop-at l = record {
  behind : l.from ≤ l.at;
  idle : NoneWaits (waiting_in l.self-inside.words.items l.self-inside.many) l.from l.at;
}

abbrev pub decreases-loop-at : goal.decreases-loop-at
decreases-loop-at l = l.self-inside.many - l.at
