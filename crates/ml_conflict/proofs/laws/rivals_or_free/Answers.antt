use Rattle.ml_conflict.proofs.RivalLemmas.{rivals_or_free}
use Rattle.ml_conflict.proofs.laws.rivals_or_free.Goals as goal

pub returns : goal.returns
returns c = rivals_or_free
