use Rattle.ml_store.proofs.Tables.{number_found}
use Rattle.ml_store.proofs.table.Table.number_of.Goals as goal

pub returns : goal.returns
returns c = rw (← c.self.view_is) (number_found c.self.inside.rows c.args.id.now c.find_id.result c.find_id.ensures)
