use Rattle.std.proofs.Common.{◌∙◌, sym, ap}
use Rattle.ml_store.specs.Names.{Name, naming_of}
use Rattle.ml_store.specs.declared.row.Row.{Row}
use Rattle.ml_store.proofs.Naming.{unique_names}
use Rattle.ml_store.proofs.names.id_of.Goals as goal
use Rattle.ml_ratio.proofs.lemmas.Lists.{contains_map}

pub returns : goal.returns
returns c name there same =
    let rows = c.args.rows.now in
    let r : Row = c.with_number.result.now in
    let e = unique_names rows c.with_number.ensures.numbered.differ (naming_of r) name (contains_map naming_of rows r c.with_number.ensures.row) there
    (c.with_number.ensures.number ∙ sym same) in
    c.id.ensures ∙ ap (λ (x : Name). x.id) e
