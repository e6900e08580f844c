use Rattle.std.proofs.Common.{◌∙◌, sym}
use Rattle.ml_repair.proofs.Present.{present_read, low_number}
use Rattle.ml_repair.proofs.chosen.present_slot.Goals as goal

pub slot-requires : goal.slot-requires
slot-requires c = low_number c.args.roster.now c.args.place c.row-row.result.now c.row-row.ensures.numbered.low c.requires (sym (c.row-row.ensures.row c.row-row.result.now))

pub returns-clause-slot : goal.returns-clause-slot
returns-clause-slot c = c.slot.ensures ∙ sym (present_read c.args.roster.now c.args.moves.now c.args.place c.row-row.result.now c.requires (sym (c.row-row.ensures.row c.row-row.result.now)))
