use Rattle.ml_grid.specs.Marks.{marked}
use Rattle.ml_store.specs.Boxes.{unboxed}
use Rattle.ml_store.specs.Store.{IsEntryIn}
use Rattle.ml_store.proofs.Gathered.{if_ok}
use Rattle.ml_store.proofs.Index.{index_same}
use Rattle.ml_store.proofs.bulk.grid_of.Goals as goal

pub returns-clause-kept : goal.returns-clause-kept
returns-clause-kept c =
    if_ok c.of_marks.result _ _
    (λ grid moved. index_same IsEntryIn (unboxed c.args.rows.now) (marked c.in_ok-ends.ends c.in_ok-marks.marks.items) grid.entries moved c.in_ok-marks.ensures.kept)
    c.of_marks.ensures.entries
