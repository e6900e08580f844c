use Rattle.ml_repair.proofs.OneEdit.{one_cost}
use Rattle.ml_repair.proofs.laws.one_cost.Goals as goal

pub returns : goal.returns
returns c = one_cost c.l0.ensures
