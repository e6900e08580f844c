use Rattle.ml_anchor.proofs.LawLemmas.{some_stretch_is_inside}
use Rattle.ml_anchor.proofs.laws.some_stretch_is_inside.Goals as goal

pub returns : goal.returns
returns c = some_stretch_is_inside
