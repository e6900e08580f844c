use Rattle.ml_watch.proofs.Spellings.{one_spelling}
use Rattle.ml_watch.proofs.laws.one_spelling.Goals as goal

pub returns : goal.returns
returns c = one_spelling
