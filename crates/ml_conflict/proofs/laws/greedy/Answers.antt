use Rattle.ml_conflict.proofs.Own.{greedy_longest}
use Rattle.ml_conflict.proofs.laws.greedy.Goals as goal

pub returns : goal.returns
returns c = greedy_longest
