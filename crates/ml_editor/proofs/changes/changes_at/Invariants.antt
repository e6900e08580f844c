use Rattle.std.proofs.Common.{take}
use Rattle.ml_editor.specs.Changing.{AreChangesAt}
use Rattle.ml_editor.proofs.changes.changes_at.Given as goal

abbrev pub invariant-loop-feature : goal.invariant-loop-feature
invariant-loop-feature l = AreChangesAt l.old.rows l.new.rows (take l.feature-index l.features) l.out.items
