use Rattle.ml_river.proofs.OnePlace.{one_place}
use Rattle.ml_river.proofs.laws.one_place.Goals as goal

pub returns : goal.returns
returns c = one_place
