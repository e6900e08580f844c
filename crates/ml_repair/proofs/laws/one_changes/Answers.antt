use Rattle.ml_repair.proofs.OneEdit.{one_changes}
use Rattle.ml_repair.proofs.laws.one_changes.Goals as goal

pub returns : goal.returns
returns c = one_changes
