use Rattle.ml_json.proofs.Exact.{text_or_fault}
use Rattle.ml_json.proofs.laws.text_or_fault.Goals as goal

pub returns : goal.returns
returns c = text_or_fault
