use Rattle.ml_serve.proofs.OneSession.{follow_state}
use Rattle.ml_serve.proofs.laws.session_stays_reached.Goals as goal

pub returns : goal.returns
returns g c hearing ends old new visits is x = follow_state c.stays_reached.ensures.connection hearing ends old new visits is x
