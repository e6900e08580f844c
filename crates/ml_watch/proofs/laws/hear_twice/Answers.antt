use Rattle.ml_watch.proofs.Hearings.{all_hear_twice}
use Rattle.ml_watch.proofs.laws.hear_twice.Goals as goal

pub returns : goal.returns
returns g c = all_hear_twice g.W.Watcher.hearing
