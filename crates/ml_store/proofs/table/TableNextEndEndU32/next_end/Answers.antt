use Rattle.std.proofs.Common.{sym}
use Rattle.ml_store.proofs.Renewing.{end_of_row, end_of_none}
use Rattle.ml_store.proofs.table.TableNextEndEndU32.next_end.Goals as goal

pub returns-in-Some : goal.returns-in-Some
returns-in-Some c =
    let found = c.in-Some.ensures.row in
    rw (← c.self.view_is, c.of.ensures) (sym (end_of_row c.self.inside.rows c.in-Some.row.now c.args.number.now c.args.end c.self.invariant.0.numbered.differ found.0 found.1))

pub returns-in-None : goal.returns-in-None
returns-in-None c = rw (← c.self.view_is) (sym (end_of_none c.self.inside.rows c.args.number.now c.args.end c.in-None.ensures.row))
