use Rattle.ml_json.specs.Leaps.{here}
use Rattle.ml_json.proofs.leaps.leap.Goals as goal

pub returns-in_default : goal.returns-in_default
returns-in_default c = here
