use Rattle.ml_gaps.proofs.Clearing.{shown_clear}
use Rattle.ml_gaps.proofs.laws.l9.Goals as goal

pub returns : goal.returns
returns c = shown_clear
