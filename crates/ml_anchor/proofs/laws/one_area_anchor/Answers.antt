use Rattle.ml_anchor.proofs.LawLemmas.{one_area_anchor}
use Rattle.ml_anchor.proofs.laws.one_area_anchor.Goals as goal

pub returns : goal.returns
returns c = one_area_anchor
