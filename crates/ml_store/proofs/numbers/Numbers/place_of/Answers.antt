use Rattle.std.proofs.Common.{arith}
use Rattle.ml_store.proofs.Orders.{different_first, unused}
use Rattle.ml_store.proofs.numbers.Numbers.place_of.Goals as goal

pub returns-then-at-self-clause-differ : goal.returns-then-at-self-clause-differ
returns-then-at-self-clause-differ c = rw (← c.self.view_is) (different_first c.self.inside.tiers c.self.inside.used c.self.invariant.all c.self.invariant.few)

pub returns-else-at-self-clause-place : goal.returns-else-at-self-clause-place
returns-else-at-self-clause-place c =
    rw (← c.self.view_is) (unused c.self.inside.tiers c.self.inside.used c.place_of-at.result c.args.number c.self.invariant.all (omega arith)
    c.place_of-at.ensures.place c.place_of-at.ensures.number)

pub returns-else-at-self-clause-differ : goal.returns-else-at-self-clause-differ
returns-else-at-self-clause-differ c = rw (← c.self.view_is) (different_first c.self.inside.tiers c.self.inside.used c.self.invariant.all c.self.invariant.few)

pub returns-else-number-lt-MOST_LABELS-clause-differ : goal.returns-else-number-lt-MOST_LABELS-clause-differ
returns-else-number-lt-MOST_LABELS-clause-differ c = rw (← c.self.view_is) (different_first c.self.inside.tiers c.self.inside.used c.self.invariant.all c.self.invariant.few)
