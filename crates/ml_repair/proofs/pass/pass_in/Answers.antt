use Rattle.std.proofs.Common.{◌∙◌, ap, sym, ℕ}
use Rattle.ml_repair.specs.Plan.{slot_for}
use Rattle.ml_repair.specs.Roster.{left_rows}
use Rattle.ml_repair.proofs.Answered.{if_ok, if_both}
use Rattle.ml_repair.proofs.Edited.{come_start, come_end, come_cost, number_come}
use Rattle.ml_repair.proofs.pass.pass_in.Goals as goal

pub repair-requires-clause-was : goal.repair-requires-clause-was
repair-requires-clause-was g c =
    rw c.with-roster.ensures.rows (come_start c.own_slots.ensures c.carried.ensures
    (left_rows c.args.gone c.args.store.now.rows) c.args.at c.settle_coming.new.row c.args.moves.now c.args.moves.now c.requires.is_place c.requires.before)

pub returns-clause-after : goal.returns-clause-after
returns-clause-after g c =
    if_ok c.repair.result _ _ (λ _ own. come_end c.own_slots.ensures c.carried.ensures (left_rows c.args.gone c.args.store.now.rows) c.args.at
    c.settle_coming.new.row c.args.moves.now c.repair.new.moves c.requires.is_place own) (rw c.with-roster.ensures.rows at c.repair.ensures.own)

pub returns-clause-touched : goal.returns-clause-touched
returns-clause-touched g c =
    let left = left_rows c.args.gone c.args.store.now.rows in
    if_both c.repair.result _ _ _
    (λ n own size. come_cost c.own_slots.ensures c.carried.ensures left c.args.at c.settle_coming.new.row c.args.moves.now c.repair.new.moves c.requires.is_place c.requires.before
    (come_end c.own_slots.ensures c.carried.ensures left c.args.at c.settle_coming.new.row c.args.moves.now c.repair.new.moves c.requires.is_place own) n size)
    (rw c.with-roster.ensures.rows at c.repair.ensures.own) (rw c.with-roster.ensures.rows at c.repair.ensures.touched)

pub returns-clause-kept : goal.returns-clause-kept
returns-clause-kept g c =
    let left = left_rows c.args.gone c.args.store.now.rows in
    let is = number_come left c.args.at c.settle_coming.new.row c.requires.is_place in
    if_ok c.repair.result _ _
    (λ _ kept own. ap (λ (n : ℕ). slot_for n own c.repair.new.moves) (sym is) ∙ kept own ∙ ap (λ (n : ℕ). slot_for n own c.args.moves.now) (is ∙ c.settle_coming.ensures.number) ∙ c.requires.kept own)
    (rw c.with-roster.ensures.rows at c.repair.ensures.kept)
