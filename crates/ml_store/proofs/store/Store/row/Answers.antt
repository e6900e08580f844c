use Rattle.std.proofs.Common.{sym}
use Rattle.ml_ratio.proofs.lemmas.Lists.{map_read}
use Rattle.ml_cone.specs.Slots.{no_slot}
use Rattle.ml_store.specs.declared.row.Row.{Row}
use Rattle.ml_store.proofs.store.Store.row.Goals as goal

pub returns-clause-number : goal.returns-clause-number
returns-clause-number c = rw (← c.self.view_is) (map_read (λ (t : Row). t.number) c.self.inside.table.rows c.args.at c.row.result.now 0
    (rw (← c.self.view_is) at c.requires) (sym (c.row.ensures.row c.row.result.now)))

pub returns-clause-label : goal.returns-clause-label
returns-clause-label c d = rw (← c.self.view_is) (map_read (λ (t : Row). t.label) c.self.inside.table.rows c.args.at c.row.result.now d
    (rw (← c.self.view_is) at c.requires) (sym (c.row.ensures.row c.row.result.now)))

pub returns-clause-slot : goal.returns-clause-slot
returns-clause-slot c = rw (← c.self.view_is) (map_read (λ (t : Row). t.slot) c.self.inside.table.rows c.args.at c.row.result.now no_slot
    (rw (← c.self.view_is) at c.requires) (sym (c.row.ensures.row c.row.result.now)))

pub returns-clause-row : goal.returns-clause-row
returns-clause-row c = rw (← c.self.view_is) c.row.ensures.row
