use Rattle.std.proofs.Common.{arith, take, subst, List}
use Rattle.ml_grid.specs.Entry.{Entry}
use Rattle.ml_grid.specs.Marks.{marked}
use Rattle.ml_store.specs.Boxes.{unboxed}
use Rattle.ml_store.specs.Store.{IsEntryIn, IsIndex}
use Rattle.ml_store.specs.declared.row.Row.{Row}
use Rattle.ml_store.proofs.Endings.{in_place, end_found}
use Rattle.ml_store.proofs.Fresh.{differ_in_turn}
use Rattle.ml_store.proofs.Gathered.{added_box, all_read, fresh_box}
use Rattle.ml_store.proofs.Index.{entry_number, index_free, index_more, index_none}
use Rattle.ml_store.proofs.bulk.marks_of.Goals as goal

pub loop-row-init : goal.loop-row-init
loop-row-init c = record {
  apart = rw c.new-marks.ensures.items (λ i j d below within. absurd (omega arith));
  kept = rw c.new-marks.ensures.items (index_none IsEntryIn);
}

pub mark-requires-clause-number : goal.mark-requires-clause-number
mark-requires-clause-number c =
    let boxes = c.args.rows.now in
    let b = c.row-item.result in
    let place = in_place boxes c.loop-row.row-index b (omega arith) c.row-item.is c.requires.in_turn in
    rw c.deref.ensures (omega arith)

pub mark-requires-clause-free : goal.mark-requires-clause-free
mark-requires-clause-free c =
    let boxes = c.args.rows.now in
    let b = c.row-item.result in
    rw c.deref.ensures
    (index_free (λ (e : Entry). e.value) IsEntryIn entry_number b.value.number (take c.loop-row.row-index (unboxed boxes)) (marked c.args.ends.now c.loop-row.marks.items)
    (fresh_box boxes c.loop-row.row-index b (omega arith) c.row-item.is (differ_in_turn (unboxed boxes) c.requires.in_turn)) c.loop-row.invariant.kept)

pub loop-row-preserved : goal.loop-row-preserved
loop-row-preserved c =
    let boxes = c.args.rows.now in
    let b = c.row-item.result in
    let found = end_found boxes c.loop-row.row-index b (omega arith) c.row-item.is c.requires.in_turn c.args.ends.now c.requires.ends in
    record {
      apart = c.in_ok-mark.ensures.apart;
      kept = index_more (λ (e : Entry). e.value) IsEntryIn entry_number (marked c.args.ends.now c.loop-row.marks.items) (marked c.args.ends.now c.mark.new.marks.items)
          (added_box boxes c.loop-row.row-index b (omega arith) c.row-item.is) c.loop-row.invariant.kept
          (rw found at (rw (c.deref.ensures, c.deref-in-loop-row.ensures) at c.in_ok-mark.ensures.entries));
    }

pub returns-clause-kept : goal.returns-clause-kept
returns-clause-kept c =
    let read = all_read c.args.rows.now c.loop-row.row-index (omega arith) in
    subst (λ (rows : List Row). IsIndex IsEntryIn rows (marked c.args.ends.now c.loop-row.marks.items)) read c.loop-row.invariant.kept
