use Rattle.ml_conflict.proofs.Greedy.{longest_unique}
use Rattle.ml_conflict.proofs.laws.l0.Goals as goal

pub returns : goal.returns
returns c = longest_unique
