use Rattle.std.proofs.Common.{take}
use Rattle.ml_follow.specs.Changes.{HasId, AreChangesAmong}
use Rattle.ml_follow.proofs.changes.changes_of_new.Given as goal

abbrev pub invariant-loop-label : goal.invariant-loop-label
invariant-loop-label l = AreChangesAmong l.old l.new (HasId (take l.label-index l.new.labels.now)) l.out.items
