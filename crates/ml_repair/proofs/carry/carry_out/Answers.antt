use Rattle.std.proofs.Common.{◌≡◌, ◌∙◌, sym, ap, subst}
use Rattle.ml_repair.specs.Plan.{Planned, rows_with, moved_rows, kept_rows, planned_rows}
use Rattle.ml_repair.specs.Settled.{IsSettled}
use Rattle.ml_repair.proofs.Carries.{planned_parts}
use Rattle.ml_repair.proofs.carry.carry_out.Goals as goal

pub let_in-requires-clause-settled : goal.let_in-requires-clause-settled
let_in-requires-clause-settled c =
    let rows : c.set_slots.new.self.rows ≡ moved_rows c.plan.inside.moved.items (kept_rows c.plan.inside.edit c.args.store.now.rows) =
    (rw c.deref.ensures.value at c.set_slots.ensures.rows) ∙ ap (moved_rows c.plan.inside.moved.items) c.let_go.ensures.rows in
    let planned : planned_rows c.args.plan c.args.store.now.rows ≡ rows_with c.plan.inside.edit c.set_slots.new.self.rows =
    ap (λ (p : Planned). planned_rows p c.args.store.now.rows) (sym c.plan.view_is) ∙ planned_parts _ c.args.store.now.rows ∙ ap (rows_with c.plan.inside.edit) (sym rows) in
    subst IsSettled planned c.requires.of_state.settled

pub returns : goal.returns
returns c =
    let rows : c.set_slots.new.self.rows ≡ moved_rows c.plan.inside.moved.items (kept_rows c.plan.inside.edit c.args.store.now.rows) =
    (rw c.deref.ensures.value at c.set_slots.ensures.rows) ∙ ap (moved_rows c.plan.inside.moved.items) c.let_go.ensures.rows in
    c.let_in.ensures ∙ ap (rows_with c.plan.inside.edit) rows ∙ sym (ap (λ (p : Planned). planned_rows p c.args.store.now.rows) (sym c.plan.view_is) ∙ planned_parts _ c.args.store.now.rows)
