use Rattle.std.proofs.Common.{List, ap, subst}
use Rattle.std.specs.Prelude.{MatchOption}
use Rattle.ml_store.specs.Rows.{labels_in, HasId, IsNumberOf}
use Rattle.ml_store.specs.declared.row.Row.{Row}
use Rattle.ml_editor.proofs.editor.Editor.number_of.Goals as goal

pub returns-clause-number : goal.returns-clause-number
returns-clause-number c =
    let P : List Row → Type 0 = λ rows. MatchOption c.number_of.result (¬ (HasId (labels_in rows) c.args.id.now)) (IsNumberOf rows c.args.id.now) in
    subst P (ap (λ e. e.engine.rows) c.self.view_is) c.number_of.ensures
