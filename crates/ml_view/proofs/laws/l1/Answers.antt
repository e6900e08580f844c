use Rattle.ml_view.proofs.LawLemmas.{l1}
use Rattle.ml_view.proofs.laws.l1.Goals as goal

pub returns : goal.returns
returns c = l1
