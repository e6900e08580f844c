use Rattle.std.proofs.Common.{◌∙◌, sym}
use Rattle.ml_repair.proofs.Shapes.{without_remove_is}
use Rattle.ml_repair.proofs.carry.take_id.Goals as goal

pub returns-clause-rows : goal.returns-clause-rows
returns-clause-rows c = c.take-row.ensures.rows
    ∙ sym (without_remove_is c.args.store.now.rows c.place_of_id-at.result c.args.id.now c.requires.up c.place_of_id-at.ensures.place c.place_of_id-at.ensures.here)
