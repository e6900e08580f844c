use Rattle.std.proofs.Common.{w32, Bool}
use Rattle.std.proofs.lemmas.Int.{to_z-of_z}
use Rattle.ml_spans.specs.Search.{is_in_range}
use Rattle.ml_grid.specs.Cell.{cell_cmp}
use Rattle.ml_grid.specs.Entry.{Entry}
use Rattle.ml_grid.specs.Column.{IsInColumn}
use Rattle.ml_grid.proofs.Finds.{finds_tested, column_tests, on_ok}
use Rattle.ml_grid.proofs.find.find_column.Goals as goal

pub returns : goal.returns
returns c =
    let ends = c.column_ends.ensures in
    let test : Entry → Bool = is_in_range cell_cmp c.column_ends.result.0 c.column_ends.result.1 in
    record {
      ok = on_ok c.range.result _ _
          (finds_tested test
          (IsInColumn c.args.cells.now c.args.x) c.args.tree.now.entries c.args.found.now c.range.new.out
          (λ e. rw (ends.first, ends.last, to_z-of_z w32 c.args.x c.ranges.x) (column_tests c.args.cells.now c.args.x e)))
          c.range.ensures.members;
    }
