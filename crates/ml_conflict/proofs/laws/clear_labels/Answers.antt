use Rattle.ml_conflict.proofs.Limits.{none_of_clear}
use Rattle.ml_conflict.proofs.laws.clear_labels.Goals as goal

pub returns : goal.returns
returns c = none_of_clear
