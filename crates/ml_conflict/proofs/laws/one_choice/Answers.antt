use Rattle.ml_conflict.proofs.OneChoice.{one_choice, one_blocker}
use Rattle.ml_conflict.proofs.laws.one_choice.Goals as goal

pub returns : goal.returns
returns c = record { slots = one_choice; blocker = one_blocker }
