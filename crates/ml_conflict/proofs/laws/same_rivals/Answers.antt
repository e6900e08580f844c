use Rattle.std.specs.Prelude.{◌<◌}
use Rattle.ml_conflict.proofs.Carried.{own_like}
use Rattle.ml_conflict.proofs.laws.same_rivals.Goals as goal

pub returns : goal.returns
returns c low rivals others n same = own_like low rivals others (λ j. j < n) (λ j. j < n) (λ j h. (h, same j h)) (λ j h. h)
