use Rattle.std.proofs.Common.{◌≡◌, get_or, sym, refl}
use Rattle.ml_grid.specs.Entry.{Entry}
use Rattle.ml_store.specs.Store.{IsEntryIn}
use Rattle.ml_store.specs.declared.row.Row.{Row}
use Rattle.ml_store.proofs.Fresh.{fresh_removed, differ_moved}
use Rattle.ml_store.proofs.Index.{index_its, index_moved, entry_number}
use Rattle.ml_store.proofs.Tables.{with_slot_is}
use Rattle.ml_store.proofs.moving.write_slot.Goals as goal
use Rattle.ml_ratio.proofs.lemmas.Lists.{added_remove, added_set}

pub move_entries-requires : goal.move_entries-requires
move_entries-requires c =
    let rows = c.args.table.now.rows in
    let r : Row = c.row-row.result.now in
    let read : r ≡ get_or rows c.args.at r = sym (c.row-row.ensures.row r) in
    let fresh = fresh_removed rows c.args.at r c.requires.stored.differ c.requires.is_place read in
    record { its = index_its (λ (e : Entry). e.value) IsEntryIn entry_number c.args.grid.now.entries (added_remove rows c.args.at r c.requires.is_place read) fresh c.requires.stored.kept }

pub returns-clause-stored : goal.returns-clause-stored
returns-clause-stored c =
    let rows = c.args.table.now.rows in
    let r : Row = c.row-row.result.now in
    let read : r ≡ get_or rows c.args.at r = sym (c.row-row.ensures.row r) in
    let a = added_remove rows c.args.at r c.requires.is_place read in
    let s : Row = record r { slot = c.args.slot } in
    let b = added_set rows c.args.at s c.requires.is_place in
    let fresh = fresh_removed rows c.args.at r c.requires.stored.differ c.requires.is_place read in
    let is = with_slot_is rows c.args.at r c.args.slot c.requires.is_place read in
    record {
      differ = rw (c.write_pair.ensures.rows) (differ_moved rows c.args.at c.args.slot c.requires.stored.differ);
      kept = rw (c.write_pair.ensures.rows, ← is)
          (index_moved (λ (e : Entry). e.value) IsEntryIn entry_number {s =
          s} c.args.grid.now.entries c.move_entries.new.grid.entries refl a b fresh c.requires.stored.kept c.move_entries.ensures.entries);
      paired = c.write_pair.ensures.paired;
    }
