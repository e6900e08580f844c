use Rattle.ml_store.specs.declared.row.Row.{Row}
use Rattle.ml_store.proofs.Tables.{table_in}
use Rattle.ml_store.proofs.lemmas.Numbered.{numbered_inserted}
use Rattle.ml_store.proofs.table.put_in.Goals as goal

pub returns-clause-table : goal.returns-clause-table
returns-clause-table c =
    let rows = c.args.rows.now in
    let r : Row = c.args.row.value in
    let named = rw (c.id.ensures, c.deref.ensures, c.deref-2.ensures) at c.put_name.ensures.by_name in
    rw c.insert.ensures.rows
    (table_in rows c.put_name.new.ids c.args.at r (numbered_inserted rows c.args.at r c.requires.table.numbered c.requires.is_place c.insert.ensures.few c.requires.fresh c.requires.low) named)
