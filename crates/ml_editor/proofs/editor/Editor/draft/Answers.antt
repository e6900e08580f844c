use Rattle.std.proofs.Common.{inl, inr, sym, subst}
use Rattle.std.specs.Prelude.{IfOk}
use Rattle.std.proofs.lemmas.Result.{IfOk-weaker}
use Rattle.ml_editor.specs.State.{IsAllowed}
use Rattle.ml_editor.specs.Editing.{Editing, IsDrawnFor, IsEditDraft}
use Rattle.ml_editor.specs.declared.edit.Edit.{Edit}
use Rattle.ml_editor.specs.declared.edit.Edit.TheVariants.{Add, Replace}
use Rattle.ml_editor.proofs.Readiness.{room_for_label}
use Rattle.ml_editor.proofs.Works.{drawn_add}
use Rattle.ml_editor.proofs.editor.Editor.draft.Goals as goal

pub draft_for-requires-clause-few : goal.draft_for-requires-clause-few
draft_for-requires-clause-few g c = λ some none.
    let P : Editing → Type 0 = λ e. IsAllowed e.state.features (Add c.in-Add.feature) in
    let may = subst P (sym c.self.view_is) (subst (IsAllowed c.args.self.now.state.features) c.in-Add.is c.requires) in
    room_for_label _ c.in-Add.feature.id c.self.invariant (inr may.1) none

pub draft_for-requires-in-Replace-clause-few : goal.draft_for-requires-in-Replace-clause-few
draft_for-requires-in-Replace-clause-few g c = λ some none.
    let P : Editing → Type 0 = λ e. IsAllowed e.state.features (Replace c.in-Replace.feature) in
    let may = subst P (sym c.self.view_is) (subst (IsAllowed c.args.self.now.state.features) c.in-Replace.is c.requires) in
    room_for_label _ c.in-Replace.feature.id c.self.invariant (inl may) none

pub returns-in_ok-label-in-Add-clause-draft : goal.returns-in_ok-label-in-Add-clause-draft
returns-in_ok-label-in-Add-clause-draft g c =
    let D : Editing → Type 0 = λ e. IfOk c.draft_for.result (λ draft. IsDrawnFor draft e.engine.rows c.in-Add.feature.id c.in_ok-label-in-Add.label c.args.steps.now c.draft_for.new.steps) in
    let P : Edit → Type 0 = λ e. IfOk c.draft_for.result (IsEditDraft c.args.self.now.state c.args.self.now.engine.rows e c.args.steps.now c.draft_for.new.steps) in
    subst P (sym c.in-Add.is) (IfOk-weaker c.draft_for.result _ _
    (λ draft drawn. drawn_add c.args.self.now.state c.args.self.now.engine.rows _ _ c.in-Add.feature c.in_ok-label-in-Add.label c.in_ok-label-in-Add.ensures.label draft drawn)
    (subst D c.self.view_is c.draft_for.ensures))
