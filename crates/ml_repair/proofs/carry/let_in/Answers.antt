use Rattle.ml_repair.proofs.Carries.{come_up, can_come}
use Rattle.ml_repair.proofs.carry.let_in.Goals as goal

pub insert_row-requires-clause-up : goal.insert_row-requires-clause-up
insert_row-requires-clause-up c = come_up c.in-Add.row.value c.args.store.now.rows (rw c.in-Add.is at c.requires.settled)

pub insert_row-requires-clause-comes : goal.insert_row-requires-clause-comes
insert_row-requires-clause-comes c = can_come c.in-Add.row.value c.args.store.now.rows (rw c.in-Add.is at c.requires.settled)

pub insert_row-requires-in-Replace-clause-up : goal.insert_row-requires-in-Replace-clause-up
insert_row-requires-in-Replace-clause-up c = come_up c.in-Replace.row.value c.args.store.now.rows (rw c.in-Replace.is at c.requires.settled)

pub insert_row-requires-in-Replace-clause-comes : goal.insert_row-requires-in-Replace-clause-comes
insert_row-requires-in-Replace-clause-comes c = can_come c.in-Replace.row.value c.args.store.now.rows (rw c.in-Replace.is at c.requires.settled)
