use Rattle.std.proofs.Common.{◌∙◌, sym}
use Rattle.ml_store.specs.declared.row.Row.{Row}
use Rattle.ml_repair.proofs.OneRow.{one_number}
use Rattle.ml_repair.proofs.read.row_at.Goals as goal

pub returns : goal.returns
returns c r there same =
    let rows = c.args.store.now.rows in
    let s : Row = c.row.result.now in
    let lt = c.in-Some.ensures.place.0 in
    one_number rows s r (c.in-Some.at, lt, c.row.ensures.row s) there c.row.ensures.numbered.differ (sym (c.row.ensures.number) ∙ c.in-Some.ensures.place.1 ∙ sym same)
