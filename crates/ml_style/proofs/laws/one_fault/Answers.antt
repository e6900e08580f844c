use Rattle.ml_style.proofs.OneStyle.{one_fault}
use Rattle.ml_style.proofs.laws.one_fault.Goals as goal

pub returns : goal.returns
returns c = one_fault
