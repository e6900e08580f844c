use Rattle.ml_watch.proofs.Hearings.{all_hear_nothing}
use Rattle.ml_watch.proofs.laws.hear_nothing.Goals as goal

pub returns : goal.returns
returns g c = all_hear_nothing g.W.Watcher.hearing
