use Rattle.ml_repair.proofs.Answered.{if_ok, if_both}
use Rattle.ml_repair.proofs.Edited.{gone_start, gone_end, gone_cost}
use Rattle.ml_repair.proofs.pass.pass_out.Goals as goal

pub repair-requires-clause-was : goal.repair-requires-clause-was
repair-requires-clause-was g c = rw c.of_all-roster.ensures.rows
    (gone_start c.own_slots.ensures c.carried.ensures c.args.store.now.rows c.args.at c.args.moves.now c.args.moves.now c.requires.is_place c.requires.before)

pub returns-clause-after : goal.returns-clause-after
returns-clause-after g c =
    if_ok c.repair.result _ _ (λ _ own. gone_end c.own_slots.ensures c.carried.ensures c.args.store.now.rows c.args.at c.args.moves.now c.repair.new.moves c.requires.is_place own)
    (rw c.of_all-roster.ensures.rows at c.repair.ensures.own)

pub returns-clause-touched : goal.returns-clause-touched
returns-clause-touched g c =
    let rows = c.args.store.now.rows in
    if_both c.repair.result _ _ _
    (λ n own size. gone_cost c.own_slots.ensures c.carried.ensures rows c.args.at c.args.moves.now c.repair.new.moves c.requires.is_place c.requires.before
    (gone_end c.own_slots.ensures c.carried.ensures rows c.args.at c.args.moves.now c.repair.new.moves c.requires.is_place own) n size)
    (rw c.of_all-roster.ensures.rows at c.repair.ensures.own) (rw c.of_all-roster.ensures.rows at c.repair.ensures.touched)
