use Rattle.ml_style.proofs.OneStyle.{one_style}
use Rattle.ml_style.proofs.laws.one_style.Goals as goal

pub returns : goal.returns
returns c = one_style
