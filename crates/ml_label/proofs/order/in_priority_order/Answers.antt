use Rattle.std.proofs.Common.{rules}
use Rattle.ml_label.proofs.OrderLemmas.{sorted_labels}
use Rattle.ml_label.proofs.order.in_priority_order.Goals as goal

pub returns-clause-ordered : goal.returns-clause-ordered
returns-clause-ordered c = sorted_labels _ _ c.requires.differ c.sort_unstable_by.ensures.permutation c.sort_unstable_by.ensures.sorted (λ f a r f' call. search rules)
