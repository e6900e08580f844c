use Rattle.ml_grid.proofs.Near.{seen_if_shown}
use Rattle.ml_grid.proofs.laws.shown_seen.Goals as goal

pub returns : goal.returns
returns c = seen_if_shown c.seen_in_cell.ensures
