use Rattle.ml_flight.proofs.Viewed.{no_more}
use Rattle.ml_flight.proofs.laws.no_view_shows_more.Goals as goal

pub returns : goal.returns
returns c labels slots at all most view places lines is_most same shown = no_more labels slots at all view places lines same shown most is_most
