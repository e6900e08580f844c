use Rattle.ml_conflict.proofs.Limits.{none_of_ended}
use Rattle.ml_conflict.proofs.laws.ended_labels.Goals as goal

pub returns : goal.returns
returns c = none_of_ended
