use Rattle.ml_conflict.proofs.Greedy.{Allows-smaller}
use Rattle.ml_conflict.proofs.laws.smaller_ends.Goals as goal

pub returns : goal.returns
returns c = Allows-smaller
