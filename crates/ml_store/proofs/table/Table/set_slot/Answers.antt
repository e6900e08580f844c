use Rattle.std.proofs.Common.{arith}
use Rattle.ml_store.proofs.Tables.{table_moved, length-with_slot}
use Rattle.ml_store.proofs.table.Table.set_slot.Goals as goal

pub invariant_of-self : goal.invariant_of-self
invariant_of-self c =
    let n = length-with_slot c.self.inside.rows c.args.at c.args.slot in
    let few = c.self.invariant.1 in
    rw c.set_slot.ensures.rows (table_moved c.self.inside.rows c.self.inside.ids c.args.at c.args.slot c.self.invariant.0, omega arith)
