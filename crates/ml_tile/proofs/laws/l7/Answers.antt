use Rattle.ml_tile.proofs.Areas.{shown_in_one}
use Rattle.ml_tile.proofs.laws.l7.Goals as goal

pub returns : goal.returns
returns c = shown_in_one
