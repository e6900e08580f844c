use Rattle.ml_conflict.proofs.Own.{own_longest, longest_own}
use Rattle.ml_conflict.proofs.laws.own_ends.Goals as goal

pub returns : goal.returns
returns c labels choice = (own_longest labels choice, longest_own labels choice)
