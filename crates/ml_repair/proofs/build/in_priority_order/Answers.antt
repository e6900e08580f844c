use Rattle.std.proofs.Common.{rules}
use Rattle.ml_repair.proofs.Sorting.{sorted_labels}
use Rattle.ml_repair.proofs.build.in_priority_order.Goals as goal

pub returns-clause-ordered : goal.returns-clause-ordered
returns-clause-ordered c = sorted_labels _ _ (rw c.into_vec-ordered.ensures c.requires.differ) c.sort_unstable_by.ensures.permutation c.sort_unstable_by.ensures.sorted (λ f a r f' call. search rules)
