use Rattle.std.proofs.Common.{ℕ, ◌-◌, ◌<◌, ◌≤◌, false, get_or}
use Rattle.std.specs.Prelude.{IsTrue}
use Rattle.ml_repair.specs.Waiting.{waiting_in}
use Rattle.ml_repair.proofs.waiting.Waiting.next_idle.Given as goal

abbrev pub invariant-loop-at : goal.invariant-loop-at
invariant-loop-at l = record {
  behind : l.from ≤ l.at;
  waiting : (k : ℕ) → l.from ≤ k → k < l.at → k < l.self-inside.many → IsTrue (get_or (waiting_in l.self-inside.words.items l.self-inside.many) k false);
}

abbrev pub decreases-loop-at : goal.decreases-loop-at
decreases-loop-at l = l.self-inside.many - l.at
