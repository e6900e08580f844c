use Rattle.std.proofs.Common.{◌≡◌, get_or, sym, refl}
use Rattle.ml_store.specs.Store.{Pair, IsPairIn}
use Rattle.ml_store.specs.declared.row.Row.{Row}
use Rattle.ml_store.proofs.Fresh.{fresh_removed}
use Rattle.ml_store.proofs.Index.{index_its, index_moved, pair_number}
use Rattle.ml_store.proofs.Tables.{with_slot_is, slot_read}
use Rattle.ml_store.proofs.moving.write_pair.Goals as goal
use Rattle.ml_ratio.proofs.lemmas.Lists.{added_remove, added_set}

pub change_pair-requires-clause-its : goal.change_pair-requires-clause-its
change_pair-requires-clause-its c =
    let rows = c.args.table.now.rows in
    let r : Row = c.row-row.result.now in
    let read : r ≡ get_or rows c.args.at r = sym (c.row-row.ensures.row r) in
    let fresh = fresh_removed rows c.args.at r c.requires.differ c.requires.is_place read in
    index_its (λ (p : Pair). p.value) IsPairIn pair_number c.args.pairs.now.entries (added_remove rows c.args.at r c.requires.is_place read) fresh c.requires.paired

pub change_pair-requires-clause-room : goal.change_pair-requires-clause-room
change_pair-requires-clause-room c =
    let e = slot_read c.args.table.now.rows c.args.at c.row-row.result.now c.requires.is_place (sym (c.row-row.ensures.row c.row-row.result.now)) in
    rw (← e) c.requires.room

pub returns-clause-blocks : goal.returns-clause-blocks
returns-clause-blocks c =
    let e = slot_read c.args.table.now.rows c.args.at c.row-row.result.now c.requires.is_place (sym (c.row-row.ensures.row c.row-row.result.now)) in
    rw e c.change_pair.ensures.spare

pub returns-clause-paired : goal.returns-clause-paired
returns-clause-paired c =
    let rows = c.args.table.now.rows in
    let r : Row = c.row-row.result.now in
    let read : r ≡ get_or rows c.args.at r = sym (c.row-row.ensures.row r) in
    let a = added_remove rows c.args.at r c.requires.is_place read in
    let s : Row = record r { slot = c.args.slot } in
    let b = added_set rows c.args.at s c.requires.is_place in
    let fresh = fresh_removed rows c.args.at r c.requires.differ c.requires.is_place read in
    let is = with_slot_is rows c.args.at r c.args.slot c.requires.is_place read in
    rw (c.set_slot.ensures.rows, ← is)
    (index_moved (λ (p : Pair). p.value) IsPairIn pair_number {s = s} c.args.pairs.now.entries c.change_pair.new.pairs.entries refl a b fresh c.requires.paired c.change_pair.ensures.pairs)
