use Rattle.std.proofs.Common.{arith, take, subst, List}
use Rattle.ml_store.specs.Boxes.{unboxed}
use Rattle.ml_store.specs.Store.{IsIndex, IsPairIn, Pair}
use Rattle.ml_store.specs.declared.row.Row.{Row}
use Rattle.ml_store.proofs.Gathered.{added_box, all_read, fresh_box}
use Rattle.ml_store.proofs.Index.{index_free, index_more, index_none, pair_number}
use Rattle.ml_store.proofs.bulk.list_pairs.Goals as goal

pub loop-row-init : goal.loop-row-init
loop-row-init c = record {
  apart = rw c.new-pairs.ensures.items (λ i j d below within. absurd (omega arith));
  paired = rw c.new-pairs.ensures.items (index_none IsPairIn);
}

pub list_pair-requires-clause-new : goal.list_pair-requires-clause-new
list_pair-requires-clause-new c =
    let boxes = c.args.rows.now in
    let b = c.row-item.result in
    rw (c.deref.ensures, c.deref-in-loop-row.ensures)
    (λ (p : Pair). λ its there. index_free (λ (q : Pair). q.value) IsPairIn pair_number b.value.number (take c.loop-row.row-index (unboxed boxes)) c.loop-row.pairs.items
    (fresh_box boxes c.loop-row.row-index b (omega arith) c.row-item.is c.requires) c.loop-row.invariant.paired p there (pair_number b.value p its))

pub loop-row-preserved : goal.loop-row-preserved
loop-row-preserved c =
    let boxes = c.args.rows.now in
    let b = c.row-item.result in
    record {
      apart = c.in_ok-list_pair.ensures.apart;
      paired = index_more (λ (p : Pair). p.value) IsPairIn pair_number c.loop-row.pairs.items c.list_pair.new.pairs.items
          (added_box boxes c.loop-row.row-index b (omega arith) c.row-item.is) c.loop-row.invariant.paired
          (rw (c.deref.ensures, c.deref-in-loop-row.ensures) at c.in_ok-list_pair.ensures.pairs);
    }

pub returns-clause-paired : goal.returns-clause-paired
returns-clause-paired c =
    let read = all_read c.args.rows.now c.loop-row.row-index (omega arith) in
    subst (λ (rows : List Row). IsIndex IsPairIn rows c.loop-row.pairs.items) read c.loop-row.invariant.paired
