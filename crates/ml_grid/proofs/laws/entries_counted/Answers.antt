use Rattle.ml_grid.proofs.Counts.{counted_all}
use Rattle.ml_grid.proofs.laws.entries_counted.Goals as goal

pub returns : goal.returns
returns c = counted_all c.hulls_are_few.ensures
