use Rattle.ml_river.proofs.LawLemmas.{one_height}
use Rattle.ml_river.proofs.laws.one_height.Goals as goal

pub returns : goal.returns
returns c = one_height
