use Rattle.std.proofs.Common.{sym}
use Rattle.ml_ratio.proofs.lemmas.Lists.{map_read}
use Rattle.ml_cone.specs.Slots.{no_slot}
use Rattle.ml_store.specs.declared.row.Row.{Row}
use Rattle.ml_repair.specs.Roster.{left_rows, joined_rows}
use Rattle.ml_repair.proofs.roster.Roster.row.Goals as goal

pub returns-clause-number : goal.returns-clause-number
returns-clause-number c = let i = c.self.inside in rw (← c.self.view_is) (map_read (λ (t : Row). t.number) (joined_rows i.come i.at
    (left_rows i.gone i.store.now.rows)) c.args.place c.joined_row.result.now 0 (rw (← c.self.view_is) at c.requires) (sym (c.joined_row.ensures c.joined_row.result.now)))

pub returns-clause-label : goal.returns-clause-label
returns-clause-label c d = let i = c.self.inside in rw (← c.self.view_is) (map_read (λ (t : Row). t.label) (joined_rows i.come i.at
    (left_rows i.gone i.store.now.rows)) c.args.place c.joined_row.result.now d (rw (← c.self.view_is) at c.requires) (sym (c.joined_row.ensures c.joined_row.result.now)))

pub returns-clause-slot : goal.returns-clause-slot
returns-clause-slot c = let i = c.self.inside in rw (← c.self.view_is) (map_read (λ (t : Row). t.slot) (joined_rows i.come i.at (left_rows i.gone i.store.now.rows))
    c.args.place c.joined_row.result.now no_slot (rw (← c.self.view_is) at c.requires) (sym (c.joined_row.ensures c.joined_row.result.now)))
