use Rattle.ml_io.proofs.Pieces.{appends_part_after}
use Rattle.ml_io.proofs.laws.append_part_after.Goals as goal

pub returns : goal.returns
returns c = appends_part_after
