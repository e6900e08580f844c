use Rattle.std.proofs.Common.{sym, ◌∙◌}
use Rattle.ml_repair.proofs.LastSlots.{new_at, new_nowhere}
use Rattle.ml_repair.proofs.lasting.is_new.Goals as goal

pub returns-in-Some : goal.returns-in-Some
returns-in-Some c =
    let rows = c.args.roster.now in
    let r = c.row.result.now in
    let here = c.in-Some.ensures.place in
    new_at rows c.args.m.now r c.same_slots.result c.row.ensures.numbered.differ (c.in-Some.at, here.0, c.row.ensures.row r) (sym c.row.ensures.number ∙ here.1) c.same_slots.ensures

pub returns-in-None : goal.returns-in-None
returns-in-None c = new_nowhere c.args.roster.now c.args.m.now c.in-None.ensures.place
