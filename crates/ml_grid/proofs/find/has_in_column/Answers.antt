use Rattle.std.proofs.Common.{w32, Bool}
use Rattle.std.proofs.lemmas.Int.{to_z-of_z}
use Rattle.ml_ratio.specs.RatioOrder.{ratio_cmp}
use Rattle.ml_spans.specs.Search.{is_stabbed}
use Rattle.ml_grid.specs.Cell.{cell_cmp}
use Rattle.ml_grid.specs.Entry.{Entry}
use Rattle.ml_grid.specs.Column.{IsInColumnFrom}
use Rattle.ml_grid.proofs.Finds.{some_tested, column_from_tests}
use Rattle.ml_grid.proofs.find.has_in_column.Goals as goal

pub returns : goal.returns
returns c =
    let ends = c.column_ends.ensures in
    let test : Entry → Bool = is_stabbed cell_cmp ratio_cmp c.column_ends.result.0 c.column_ends.result.1 c.of.result in
    let has = some_tested test (IsInColumnFrom c.args.cells.now c.args.x c.args.scale.now) c.args.tree.now.entries
    (λ e. rw (c.of.ensures, ends.first, ends.last, to_z-of_z w32 c.args.x c.ranges.x) (column_from_tests c.args.cells.now c.args.x c.args.scale.now e)) in
    (λ holds. has.0 (c.is_stabbed.ensures.0 holds), λ there. c.is_stabbed.ensures.1 (has.1 there))
