use Rattle.ml_store.specs.Boxes.{unboxed}
use Rattle.ml_store.proofs.Fresh.{differ_in_turn}
use Rattle.ml_store.proofs.store.Store.of.Goals as goal

pub invariant_of-result : goal.invariant_of-result
invariant_of-result c =
    rw c.in_ok-table.ensures (
      record {
        differ = differ_in_turn (unboxed c.args.rows.items) c.requires.in_turn;
        kept = rw c.as_slice-3.ensures.value at c.in_ok-grid.ensures.kept;
        paired = rw c.as_slice-2.ensures.value at c.in_ok-pairs.ensures.paired;
      },
      rw c.as_slice.ensures.value at c.outline_of-outline.ensures,
    )
