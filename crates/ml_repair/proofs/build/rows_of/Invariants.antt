use Rattle.std.proofs.Common.{◌≡◌, ◌++◌, take, reverse, length}
use Rattle.ml_store.specs.Boxes.{unboxed}
use Rattle.ml_store.specs.Rows.{labels_in, slots_in, AreInTurn}
use Rattle.ml_repair.proofs.build.rows_of.Given as goal

abbrev pub invariant-loop-label : goal.invariant-loop-label
invariant-loop-label l = record {
  in_turn : AreInTurn (unboxed l.rows.items);
  labels : labels_in (unboxed l.rows.items) ++ reverse l.rest.items ≡ l.fn.labels.items;
  slots : slots_in (unboxed l.rows.items) ≡ take (length (unboxed l.rows.items)) l.fn.slots;
}

abbrev pub decreases-loop-label : goal.decreases-loop-label
decreases-loop-label l = length l.rest.items
