use Rattle.ml_repair.proofs.UnchangedRows.{tells_before, tells_after}
use Rattle.ml_repair.proofs.laws.changes_tell.Goals as goal

pub returns-clause-before : goal.returns-clause-before
returns-clause-before c = tells_before

pub returns-clause-after : goal.returns-clause-after
returns-clause-after c = tells_after
