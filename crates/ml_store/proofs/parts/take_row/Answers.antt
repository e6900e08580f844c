use Rattle.std.proofs.Common.{◌≡◌, get_or, sym}
use Rattle.ml_grid.specs.Entry.{Entry}
use Rattle.ml_store.specs.Store.{Pair, IsEntryIn, IsPairIn}
use Rattle.ml_store.specs.declared.row.Row.{Row}
use Rattle.ml_store.proofs.Fresh.{fresh_removed, differ_removed}
use Rattle.ml_store.proofs.Index.{index_its, index_less, entry_number, pair_number}
use Rattle.ml_store.proofs.parts.take_row.Goals as goal
use Rattle.ml_ratio.proofs.lemmas.Lists.{added_remove}

pub take_parts-requires-clause-its : goal.take_parts-requires-clause-its
take_parts-requires-clause-its c =
    let rows = c.args.table.now.rows in
    let r : Row = c.remove-row.result.value in
    let read : r ≡ get_or rows c.args.at r = sym (c.remove-row.ensures.row r) in
    let fresh = fresh_removed rows c.args.at r c.requires.stored.differ c.requires.is_place read in
    rw c.deref.ensures (index_its (λ (e : Entry). e.value) IsEntryIn entry_number c.args.grid.now.entries (added_remove rows c.args.at r c.requires.is_place read) fresh c.requires.stored.kept)

pub take_parts-requires-clause-there : goal.take_parts-requires-clause-there
take_parts-requires-clause-there c =
    let rows = c.args.table.now.rows in
    let r : Row = c.remove-row.result.value in
    let read : r ≡ get_or rows c.args.at r = sym (c.remove-row.ensures.row r) in
    let fresh = fresh_removed rows c.args.at r c.requires.stored.differ c.requires.is_place read in
    rw c.deref.ensures (λ (p : Pair).
    λ its. ((index_its (λ (q : Pair). q.value) IsPairIn pair_number c.args.pairs.now.entries (added_remove rows c.args.at r c.requires.is_place read) fresh c.requires.stored.paired p).1 its).0)

pub returns-clause-stored : goal.returns-clause-stored
returns-clause-stored c =
    let rows = c.args.table.now.rows in
    let r : Row = c.remove-row.result.value in
    let read : r ≡ get_or rows c.args.at r = sym (c.remove-row.ensures.row r) in
    let a = added_remove rows c.args.at r c.requires.is_place read in
    let fresh = fresh_removed rows c.args.at r c.requires.stored.differ c.requires.is_place read in
    rw c.remove-row.ensures.rows (record {
      differ = differ_removed rows c.args.at c.requires.stored.differ c.requires.is_place;
      kept = index_less (λ (e : Entry). e.value) IsEntryIn entry_number c.args.grid.now.entries c.take_parts.new.grid.entries a fresh c.requires.stored.kept
          (rw c.deref.ensures at c.take_parts.ensures.entries);
      paired = index_less (λ (p : Pair). p.value) IsPairIn pair_number c.args.pairs.now.entries c.take_parts.new.pairs.entries a fresh c.requires.stored.paired
          (rw c.deref.ensures at c.take_parts.ensures.pairs);
    })
