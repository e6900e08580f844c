use Rattle.std.proofs.Common.{Option, sym, subst}
use Rattle.ml_store.specs.Rows.{labels_in, slots_in}
use Rattle.ml_repair.specs.Changes.{IsStateOf}
use Rattle.ml_editor.specs.Changing.{ranged}
use Rattle.ml_editor.specs.declared.changes.RangedLabel.{RangedLabel}
use Rattle.ml_editor.proofs.Changing.{absent_of, stands_so}
use Rattle.ml_editor.proofs.changes.held_by.Goals as goal

pub returns-in_err-number : goal.returns-in_err-number
returns-in_err-number c =
    let rows = c.args.engine.now.rows in
    let P : Option RangedLabel → Type 0 = λ o. IsStateOf (labels_in rows) (slots_in rows) c.args.id.now (ranged o) in
    subst P (sym c.from_residual.ensures) (absent_of (labels_in rows) c.args.id.now c.in_err-number.ensures)

pub returns : goal.returns
returns c =
    let row = c.in_ok-number.ensures in
    stands_so c.args.engine.now.rows row.0 c.args.id.now c.label_at-label.result.now c.min.result c.slot_at.result row.1 row.2
    (c.label_at-label.ensures row.0 row.1 row.3) c.min.ensures (c.slot_at.ensures.slot row.0 row.1 row.3)
