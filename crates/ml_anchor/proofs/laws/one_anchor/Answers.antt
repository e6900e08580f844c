use Rattle.ml_anchor.proofs.LawLemmas.{one_anchor}
use Rattle.ml_anchor.proofs.laws.one_anchor.Goals as goal

pub returns : goal.returns
returns c = one_anchor
