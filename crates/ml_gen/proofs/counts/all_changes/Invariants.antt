use Rattle.std.proofs.Common.{◌≡◌, ◌*◌, ◌^◌, ◌≤◌, take}
use Rattle.std.specs.List.{sum_by}
use Rattle.ml_gen.specs.declared.counts.Counts.{Counts}
use Rattle.ml_gen.proofs.counts.all_changes.Given as goal

abbrev pub invariant-loop-counts : goal.invariant-loop-counts
invariant-loop-counts l =
    record { sum : l.sum ≡ sum_by (λ (counts : Counts). counts.changes) (take l.counts-index l.each); low : l.sum ≤ l.counts-index * 2 ^ 64 }
