use Rattle.ml_store.proofs.Orders.{different_first}
use Rattle.ml_store.proofs.numbers.Numbers.len.Goals as goal

pub returns-clause-differ : goal.returns-clause-differ
returns-clause-differ c = rw (← c.self.view_is) (different_first c.self.inside.tiers c.self.inside.used c.self.invariant.all c.self.invariant.few)
