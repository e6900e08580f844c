use Rattle.ml_command.proofs.OneAnswer.{one_first_state}
use Rattle.ml_command.proofs.laws.one_first_state.Goals as goal

pub returns : goal.returns
returns c = one_first_state c.one_style.ensures c.one_map.ensures
