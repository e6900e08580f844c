use Rattle.ml_flight.proofs.Convex.{one_stay}
use Rattle.ml_flight.proofs.laws.l8.Goals as goal

pub returns : goal.returns
returns c = one_stay
