use Rattle.ml_editor.proofs.States.{reached}
use Rattle.ml_editor.proofs.laws.accepted_is_reached.Goals as goal

pub returns : goal.returns
returns c s rev wish edit is granted = reached s edit is granted.allowed granted.not_last
