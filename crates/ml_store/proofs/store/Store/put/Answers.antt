use Rattle.ml_store.proofs.Within.{within_inserted}
use Rattle.ml_store.proofs.store.Store.put.Goals as goal

pub put_row-requires-clause-fresh : goal.put_row-requires-clause-fresh
put_row-requires-clause-fresh c = rw (← c.self.view_is) at c.requires.fresh

pub put_row-requires-clause-new_id : goal.put_row-requires-clause-new_id
put_row-requires-clause-new_id c = rw (← c.self.view_is) at c.requires.new_id

pub invariant_of-self : goal.invariant_of-self
invariant_of-self c = (
  c.put_row.ensures.stored,
  rw c.put_row.ensures.rows (within_inserted c.self.inside.outline c.with-self-inside.result c.self.inside.table.rows c.args.at c.args.row.value
      (rw c.deref.ensures at c.with-self-inside.ensures.new) c.with-self-inside.ensures.kept c.self.invariant.1),
)
