use Rattle.std.proofs.Common.{◌≡◌, ◌∙◌, sym, ap, arith, get_or}
use Rattle.std.specs.Prelude.{remove}
use Rattle.std.proofs.lemmas.List.{get_or-map, length-map}
use Rattle.ml_store.specs.Names.{Name, naming_of, names_in, AreByName}
use Rattle.ml_store.specs.declared.row.Row.{Row}
use Rattle.ml_store.proofs.Tables.{table_out}
use Rattle.ml_store.proofs.lemmas.Numbered.{numbered_removed}
use Rattle.ml_store.proofs.table.take_out.Goals as goal

pub take_name-requires-clause-live : goal.take_name-requires-clause-live
take_name-requires-clause-live c =
    let rows = c.args.rows.now in
    let r : Row = c.at.result.now in
    let lt = c.requires.is_place in
    let m = length-map rows naming_of in
    let is = get_or-map naming_of rows c.args.at r (naming_of r) lt ∙ ap naming_of (c.at.ensures.row r) in
    (naming_of r, (c.args.at, omega arith, is), sym c.id.ensures)

pub returns-clause-table : goal.returns-clause-table
returns-clause-table c =
    let rows = c.args.rows.now in
    let r : Row = c.at.result.now in
    let lt = c.requires.is_place in
    let m = length-map rows naming_of in
    let is : get_or (names_in rows) c.args.at (naming_of r) ≡ naming_of r = get_or-map naming_of rows c.args.at r (naming_of r) lt ∙ ap naming_of (c.at.ensures.row r) in
    let by : AreByName (remove (names_in rows) c.args.at) c.take_name.new.ids =
    c.take_name.ensures.by_name c.args.at (naming_of r) (omega arith) (ap (λ (x : Name). x.id) is ∙ sym c.id.ensures) in
    rw c.remove.ensures.rows (table_out rows c.take_name.new.ids c.args.at (numbered_removed rows c.args.at c.requires.table.numbered lt) by)
