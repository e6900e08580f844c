use Rattle.ml_anchor.proofs.LawLemmas.{a_middle_is_inside}
use Rattle.ml_anchor.proofs.laws.a_middle_is_inside.Goals as goal

pub returns : goal.returns
returns c = a_middle_is_inside
