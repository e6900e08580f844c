use Rattle.ml_json.proofs.FixedLemmas.{text_back}
use Rattle.ml_json.proofs.laws.coordinates_read_back.Goals as goal

pub returns : goal.returns
returns c = text_back
