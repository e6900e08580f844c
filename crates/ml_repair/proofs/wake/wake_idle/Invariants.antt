use Rattle.std.proofs.Common.{◌≡◌, ◌-◌, ◌<◌, length}
use Rattle.ml_store.specs.Rows.{labels_in}
use Rattle.ml_repair.specs.Repair.{IsWokenBy}
use Rattle.ml_repair.proofs.wake.wake_idle.Given as goal

abbrev pub invariant-loop-k : goal.invariant-loop-k
invariant-loop-k l = (length l.waiting ≡ length l.roster) × IsWokenBy (labels_in l.roster) l.i (λ m. m < l.k) l.initial.waiting l.waiting

abbrev pub decreases-loop-k : goal.decreases-loop-k
decreases-loop-k l = l.many - l.k
