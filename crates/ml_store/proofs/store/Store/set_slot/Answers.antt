use Rattle.ml_store.proofs.Within.{within_slotted}
use Rattle.ml_store.proofs.store.Store.set_slot.Goals as goal

pub invariant_of-self : goal.invariant_of-self
invariant_of-self c = (
  c.write_slot.ensures.stored,
  rw c.write_slot.ensures.rows (within_slotted c.self.inside.outline c.self.inside.table.rows c.args.at c.args.slot c.self.invariant.1),
)
