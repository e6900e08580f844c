use Rattle.std.proofs.Common.{List, Contains, ap, sym, subst}
use Rattle.ml_store.specs.Rows.{IsLive}
use Rattle.ml_store.specs.declared.row.Row.{Row}
use Rattle.ml_editor.proofs.editor.Editor.slot_at.Goals as goal

pub slot_at-requires : goal.slot_at-requires
slot_at-requires c =
    let rows = ap (λ e. e.engine.rows) c.self.view_is in
    let P : List Row → Type 0 = λ rs. IsLive rs c.args.number in
    subst P (sym rows) c.requires

pub returns-clause-slot : goal.returns-clause-slot
returns-clause-slot c =
    let rows = ap (λ e. e.engine.rows) c.self.view_is in
    λ r there number. let P : List Row → Type 0 = λ rs. Contains rs r in c.slot_at.ensures.slot r (subst P (sym rows) there) number
