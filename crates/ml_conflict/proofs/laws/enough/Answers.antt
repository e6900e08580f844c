use Rattle.ml_conflict.proofs.FewRivals.{own_of_enough}
use Rattle.ml_conflict.proofs.laws.enough.Goals as goal

pub returns : goal.returns
returns c = own_of_enough
