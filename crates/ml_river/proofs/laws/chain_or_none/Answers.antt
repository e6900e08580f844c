use Rattle.ml_river.proofs.LawLemmas.{chain_or_none}
use Rattle.ml_river.proofs.laws.chain_or_none.Goals as goal

pub returns : goal.returns
returns c = chain_or_none
