use Rattle.ml_json.proofs.Exact.{one_fault}
use Rattle.ml_json.proofs.laws.one_fault.Goals as goal

pub returns : goal.returns
returns c = one_fault
