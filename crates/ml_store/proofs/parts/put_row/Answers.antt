use Rattle.ml_grid.specs.Entry.{Entry}
use Rattle.ml_store.specs.Store.{Pair, IsEntryIn, IsPairIn}
use Rattle.ml_store.specs.declared.row.Row.{Row}
use Rattle.ml_store.proofs.Fresh.{differ_inserted}
use Rattle.ml_store.proofs.Index.{index_free, index_more, entry_number, pair_number}
use Rattle.ml_store.proofs.parts.put_row.Goals as goal
use Rattle.ml_ratio.proofs.lemmas.Lists.{added_insert}

pub put_parts-requires-clause-free : goal.put_parts-requires-clause-free
put_parts-requires-clause-free c = rw c.deref.ensures
    (index_free (λ (e : Entry). e.value) IsEntryIn entry_number c.args.row.value.number c.args.table.now.rows c.args.grid.now.entries c.requires.fresh c.requires.stored.kept)

pub put_parts-requires-clause-new : goal.put_parts-requires-clause-new
put_parts-requires-clause-new c =
    rw c.deref.ensures (λ (p : Pair). λ its there. index_free (λ (q : Pair). q.value) IsPairIn pair_number c.args.row.value.number
    c.args.table.now.rows c.args.pairs.now.entries c.requires.fresh c.requires.stored.paired p there (pair_number c.args.row.value p its))

pub returns-clause-stored : goal.returns-clause-stored
returns-clause-stored c =
    let rows = c.args.table.now.rows in
    let r : Row = c.args.row.value in
    let a = added_insert rows c.args.at r in
    rw c.insert.ensures.rows (record {
      differ = differ_inserted rows c.args.at r c.requires.stored.differ c.requires.is_place c.requires.fresh;
      kept = index_more (λ (e : Entry). e.value) IsEntryIn entry_number c.args.grid.now.entries c.put_parts.new.grid.entries a c.requires.stored.kept
          (rw c.deref.ensures at c.put_parts.ensures.entries);
      paired = index_more (λ (p : Pair). p.value) IsPairIn pair_number c.args.pairs.now.entries c.put_parts.new.pairs.entries a c.requires.stored.paired
          (rw c.deref.ensures at c.put_parts.ensures.pairs);
    })
