use Rattle.ml_grid.proofs.Windows.{few_seen}
use Rattle.ml_grid.proofs.laws.windows_are_few.Goals as goal

pub returns : goal.returns
returns c = few_seen
