use Rattle.std.proofs.Common.{List, Contains, ap, sym, subst}
use Rattle.ml_store.specs.Rows.{IsLive}
use Rattle.ml_store.specs.declared.row.Row.{Row}
use Rattle.ml_editor.proofs.editor.Editor.label_at.Goals as goal

pub label_at-requires : goal.label_at-requires
label_at-requires c =
    let rows = ap (λ e. e.engine.rows) c.self.view_is in
    let P : List Row → Type 0 = λ rs. IsLive rs c.args.number in
    subst P (sym rows) c.requires

pub returns : goal.returns
returns c =
    let rows = ap (λ e. e.engine.rows) c.self.view_is in
    λ r there number. let P : List Row → Type 0 = λ rs. Contains rs r in c.label_at.ensures r (subst P (sym rows) there) number
