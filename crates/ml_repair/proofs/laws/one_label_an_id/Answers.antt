use Rattle.ml_repair.proofs.UnchangedRows.{one_an_id}
use Rattle.ml_repair.proofs.laws.one_label_an_id.Goals as goal

pub returns : goal.returns
returns c = one_an_id
