use Rattle.std.proofs.Common.{◌∙◌, sym}
use Rattle.ml_store.proofs.Renewing.{moved_fresh, moved_at_row}
use Rattle.ml_store.proofs.moving.write_one_pair.Goals as goal

pub returns-in-Some-clause-rows : goal.returns-in-Some-clause-rows
returns-in-Some-clause-rows c = c.write_pair.ensures.rows ∙ sym (moved_at_row c.args.m.now c.args.table.now.rows c.in-Some.at c.requires.differ c.in-Some.ensures.place)

pub returns-in-None-clause-rows : goal.returns-in-None-clause-rows
returns-in-None-clause-rows c = sym (moved_fresh c.args.m.now c.args.table.now.rows c.in-None.ensures.place)
