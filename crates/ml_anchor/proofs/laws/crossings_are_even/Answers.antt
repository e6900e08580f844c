use Rattle.ml_anchor.proofs.LawLemmas.{crossings_are_even}
use Rattle.ml_anchor.proofs.laws.crossings_are_even.Goals as goal

pub returns : goal.returns
returns c = crossings_are_even
