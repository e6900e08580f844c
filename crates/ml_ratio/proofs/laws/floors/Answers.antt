use Rattle.ml_ratio.proofs.Floors.{floors}
use Rattle.ml_ratio.proofs.laws.floors.Goals as goal

pub returns : goal.returns
returns c = floors
