use Rattle.std.proofs.Common.{Err, rules, sym, ap, subst}
use Rattle.ml_editor.specs.Editing.{Prepared}
use Rattle.ml_editor.specs.Faults.{IsGranted, wish_of}
use Rattle.ml_editor.specs.Outcome.{IsPrepared}
use Rattle.ml_editor.proofs.Readiness.{ready_is, ready_of}
use Rattle.ml_editor.proofs.Refusals.{ready_so, refused_so, same_map}
use Rattle.ml_editor.proofs.editor.Editor.prepare.Goals as goal

pub returns-in_err-edit-clause-outcome : goal.returns-in_err-edit-clause-outcome
returns-in_err-edit-clause-outcome g c =
    let old = c.args.self.now in
    let wish = wish_of c.args.asked in
    let known : IsPrepared old old c.args.rev wish (Err c.in_err-edit.field-0.0) =
    refused_so old old c.args.rev wish (c.one_refusal.ensures old.state c.args.rev wish) (same_map old) c.in_err-edit.field-0.0 c.in_err-edit.ensures.err in
    search (rules, known)

pub make_ready-requires-clause-of_state : goal.make_ready-requires-clause-of_state
make_ready-requires-clause-of_state g c =
    ready_of c.args.self.now c.in_ok-draft.draft c.draft.ensures.holds c.in_ok-edit.ensures.ok.not_last c.in_ok-edit.edit c.in_ok-edit.ensures.ok.allowed c.in_ok-draft.ensures.draft.is

pub returns-clause-outcome : goal.returns-clause-outcome
returns-clause-outcome g c =
    let old = c.args.self.now in
    let made = c.in_ok-make_ready.ensures in
    let wish = wish_of c.args.asked in
    let granted = subst (IsGranted old.state c.args.rev wish) (sym (ap (λ (r : Prepared). r.edit) made.ok)) c.in_ok-edit.ensures.ok in
    let ready = ready_of old c.in_ok-draft.draft c.draft.ensures.holds c.in_ok-edit.ensures.ok.not_last c.in_ok-edit.edit c.in_ok-edit.ensures.ok.allowed c.in_ok-draft.ensures.draft.is in
    ready_so old c.make_ready.new.self c.args.rev wish (c.one_refusal.ensures old.state c.args.rev wish) made.same c.in_ok-make_ready.field-0 granted
    (ready_is c.in_ok-make_ready.field-0 _ old.state c.make_ready.new.self.state old.engine.rows c.make_ready.new.self.engine.rows made.ok made.same.state made.same.rows ready) made.room
