use Rattle.ml_river.proofs.Narrow.{chain_narrow}
use Rattle.ml_river.proofs.laws.chains_are_narrow.Goals as goal

pub returns : goal.returns
returns c = chain_narrow
