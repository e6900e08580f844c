use Rattle.ml_store.proofs.Tables.{label_from_name}
use Rattle.ml_store.proofs.table.Table.insert.Goals as goal

pub put_in-requires-clause-fresh : goal.put_in-requires-clause-fresh
put_in-requires-clause-fresh c there = c.requires.fresh (rw (← c.self.view_is) there)

pub put_in-requires-clause-new_id : goal.put_in-requires-clause-new_id
put_in-requires-clause-new_id c have = c.requires.new_id (rw (← c.self.view_is) (label_from_name c.self.inside.rows c.args.row.value.label.order.id have))
