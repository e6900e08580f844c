use Rattle.ml_flight.proofs.Viewed.{stays_tell}
use Rattle.ml_flight.proofs.laws.stays_tell_views.Goals as goal

pub returns : goal.returns
returns c = stays_tell
