use Rattle.std.proofs.Common.{subst}
use Rattle.ml_editor.specs.Editing.{Editing}
use Rattle.ml_editor.specs.State.{HasFeature}
use Rattle.ml_editor.proofs.editor.Editor.has_feature.Goals as goal

pub returns-in-Some : goal.returns-in-Some
returns-in-Some c =
    let P : Editing → Type 0 = λ e. HasFeature e.state.features c.args.id.now in
    subst P c.self.view_is (c.in-Some.field-0.now, c.in-Some.ensures.0, c.in-Some.ensures.1)

pub returns-in-None : goal.returns-in-None
returns-in-None c =
    let P : Editing → Type 0 = λ e. ¬ (HasFeature e.state.features c.args.id.now) in
    subst P c.self.view_is c.in-None.ensures
