use Rattle.ml_cone.proofs.Hulls.{hulls_are_few}
use Rattle.ml_cone.proofs.laws.hulls_are_few.Goals as goal

pub returns : goal.returns
returns c = hulls_are_few
