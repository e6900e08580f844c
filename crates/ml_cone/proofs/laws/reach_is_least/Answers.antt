use Rattle.ml_cone.proofs.Hulls.{reach_is_least}
use Rattle.ml_cone.proofs.laws.reach_is_least.Goals as goal

pub returns : goal.returns
returns c = reach_is_least
