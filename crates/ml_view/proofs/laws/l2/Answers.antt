use Rattle.ml_view.proofs.LawLemmas.{l2}
use Rattle.ml_view.proofs.laws.l2.Goals as goal

pub returns : goal.returns
returns c = l2
