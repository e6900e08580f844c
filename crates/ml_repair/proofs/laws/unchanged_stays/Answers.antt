use Rattle.ml_repair.proofs.UnchangedRows.{stays_after, stays_before}
use Rattle.ml_repair.proofs.laws.unchanged_stays.Goals as goal

pub returns-clause-after : goal.returns-clause-after
returns-clause-after c = stays_after

pub returns-clause-before : goal.returns-clause-before
returns-clause-before c = stays_before
