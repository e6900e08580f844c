use Rattle.std.proofs.Common.{◌∙◌, ap, sym, arith}
use Rattle.ml_grid.specs.Count.{cell_count}
use Rattle.ml_grid.proofs.Sums.{count_met, count_unmet}
use Rattle.ml_grid.proofs.Windows.{cells_few}
use Rattle.ml_grid.proofs.bands.entries_in.Goals as goal

pub returns-then-is_kept-clause-count : goal.returns-then-is_kept-clause-count
returns-then-is_kept-clause-count c =
    c.cells_of.ensures.count ∙ ap cell_count c.hull_within.ensures.hull ∙ sym (count_met c.args.label.now c.args.band (sym c.if-is_kept.ensures))

pub returns-else-is_kept-clause-count : goal.returns-else-is_kept-clause-count
returns-else-is_kept-clause-count c = sym (count_unmet c.args.label.now c.args.band (sym c.if-is_kept.ensures))

pub returns-then-is_kept-clause-few : goal.returns-then-is_kept-clause-few
returns-then-is_kept-clause-few c =
    let x = c.hull_within.ensures.few_columns in
    let y = c.hull_within.ensures.few_rows in
    let few = cells_few c.hull_within.result 3 x.0 x.1 y.0 y.1 in
    let is = c.cells_of.ensures.count in
    omega arith
