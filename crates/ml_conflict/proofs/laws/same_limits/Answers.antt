use Rattle.ml_conflict.proofs.Limits.{limit_same}
use Rattle.ml_conflict.proofs.laws.same_limits.Goals as goal

pub returns : goal.returns
returns c = limit_same
