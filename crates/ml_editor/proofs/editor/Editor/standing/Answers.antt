use Rattle.std.proofs.Common.{Option, sym, subst, ◌∙◌}
use Rattle.ml_store.specs.Rows.{labels_in}
use Rattle.ml_editor.specs.Editing.{Editing}
use Rattle.ml_editor.specs.Standing.{IsStanding, IsStandingOf}
use Rattle.ml_editor.specs.State.{HasFeature}
use Rattle.ml_editor.specs.declared.standing.Standing.{Standing}
use Rattle.ml_editor.specs.declared.standing.Standing.TheVariants.{Unlabelled, Labelled}
use Rattle.ml_editor.proofs.After.{unlabelled}
use Rattle.ml_editor.proofs.editor.Editor.standing.Goals as goal

pub returns-in_err-feature : goal.returns-in_err-feature
returns-in_err-feature c =
    let P : Option Standing → Type 0 = λ o. IsStanding c.args.self.now c.args.id.now o in
    let Q : Editing → Type 0 = λ e. ¬ (HasFeature e.state.features c.args.id.now) in
    subst P (sym c.from_residual.ensures) (subst Q c.self.view_is c.in_err-feature.ensures)

pub reason_of-requires : goal.reason_of-requires
reason_of-requires c =
    let f = c.in_ok-feature.feature.now in
    let e = c.self.inside in
    let labels = labels_in e.engine.rows in
    unlabelled e.style e.features.list labels labels c.self.invariant.labels c.self.invariant.settled.in_order f c.in_ok-feature.ensures.0
    (λ h. c.in-None.ensures (h.0, h.1, h.2 ∙ c.in_ok-feature.ensures.1))

pub returns-in-Some : goal.returns-in-Some
returns-in-Some c =
    let P : Editing → Type 0 = λ e. IsStandingOf e c.args.id.now (Labelled c.in-Some.number) in
    subst P c.self.view_is ((c.in_ok-feature.feature.now, c.in_ok-feature.ensures.0, c.in_ok-feature.ensures.1), c.in-Some.ensures)

pub returns-in-None : goal.returns-in-None
returns-in-None c =
    let P : Editing → Type 0 = λ e. IsStandingOf e c.args.id.now (Unlabelled c.reason_of.result) in
    subst P c.self.view_is (c.in_ok-feature.feature.now, c.in_ok-feature.ensures.0, c.in_ok-feature.ensures.1, c.reason_of.ensures)
