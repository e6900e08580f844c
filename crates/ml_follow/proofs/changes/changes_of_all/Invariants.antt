use Rattle.std.proofs.Common.{take, ◌⊎◌}
use Rattle.ml_follow.specs.Changes.{HasId, AreChangesAmong}
use Rattle.ml_follow.proofs.changes.changes_of_all.Given as goal

abbrev pub invariant-loop-label : goal.invariant-loop-label
invariant-loop-label l = AreChangesAmong l.old l.new (λ id. HasId l.new.labels.now id ⊎ HasId (take l.label-index l.old.labels.now) id) l.out.items
