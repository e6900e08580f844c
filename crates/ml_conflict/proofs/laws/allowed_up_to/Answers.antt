use Rattle.ml_conflict.proofs.Limits.{allowed_up_to}
use Rattle.ml_conflict.proofs.laws.allowed_up_to.Goals as goal

pub returns : goal.returns
returns c = allowed_up_to
