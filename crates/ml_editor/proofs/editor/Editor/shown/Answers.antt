use Rattle.std.proofs.Common.{◌≡◌, ℕ, ◌+◌, List, ap, subst}
use Rattle.std.specs.Prelude.{IfOk}
use Rattle.ml_store.specs.Rows.{labels_in, slots_in}
use Rattle.ml_store.specs.declared.row.Row.{Row}
use Rattle.ml_repair.specs.Shown.{AreNear}
use Rattle.ml_editor.proofs.editor.Editor.shown.Goals as goal

pub returns-clause-looks : goal.returns-clause-looks
returns-clause-looks g c =
    let rows = ap (λ e. e.engine.rows) c.self.view_is in
    let P : List Row → Type 0 = λ rs. IfOk c.shown.result (λ _. (n : ℕ) × AreNear (labels_in rs) (slots_in rs) c.args.view.now n × (c.shown.new.looks ≡ c.args.looks.now + n)) in
    subst P rows c.shown.ensures.looks
