use Rattle.std.proofs.Common.{sym}
use Rattle.ml_store.proofs.Within.{within_removed}
use Rattle.ml_store.proofs.store.Store.take.Goals as goal

pub invariant_of-self : goal.invariant_of-self
invariant_of-self c =
    let r = c.take_row-row.result.value in (
      c.take_row-row.ensures.stored,
      rw c.take_row-row.ensures.rows (within_removed c.self.inside.outline c.self.inside.table.rows c.args.at r
          (rw (← c.self.view_is) at c.requires.is_place) (sym (c.take_row-row.ensures.row r)) c.self.invariant.1),
    )
