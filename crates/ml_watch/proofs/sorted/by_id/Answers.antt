use Rattle.std.proofs.Common.{rules}
use Rattle.ml_watch.proofs.Sorting.{sorted_changes}
use Rattle.ml_watch.proofs.sorted.by_id.Goals as goal

pub returns-clause-ascending : goal.returns-clause-ascending
returns-clause-ascending c = rw c.of_vec.ensures (sorted_changes _ _ c.requires c.sort_unstable_by.ensures.permutation c.sort_unstable_by.ensures.sorted (λ f a r f' call. search rules))
