use Rattle.ml_conflict.proofs.Distances.{distant_labels}
use Rattle.ml_conflict.proofs.laws.distant_labels.Goals as goal

pub returns : goal.returns
returns c = distant_labels
