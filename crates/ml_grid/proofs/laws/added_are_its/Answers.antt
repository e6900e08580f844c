use Rattle.ml_grid.proofs.Sets.{added_are_its}
use Rattle.ml_grid.proofs.laws.added_are_its.Goals as goal

pub returns : goal.returns
returns c = added_are_its
