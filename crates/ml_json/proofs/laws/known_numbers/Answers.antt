use Rattle.ml_json.proofs.KnownNumbers.{number_known}
use Rattle.ml_json.proofs.laws.known_numbers.Goals as goal

pub returns : goal.returns
returns c = number_known
