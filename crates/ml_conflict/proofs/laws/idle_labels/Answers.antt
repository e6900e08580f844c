use Rattle.ml_conflict.proofs.Limits.{none_of_idle}
use Rattle.ml_conflict.proofs.laws.idle_labels.Goals as goal

pub returns : goal.returns
returns c = none_of_idle
