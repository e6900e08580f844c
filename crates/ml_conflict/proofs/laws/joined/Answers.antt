use Rattle.std.specs.Prelude.{IsTrue}
use Rattle.ml_conflict.specs.Carried.{holds}
use Rattle.ml_conflict.proofs.Carried.{own_joined}
use Rattle.ml_conflict.proofs.laws.joined.Goals as goal

pub returns : goal.returns
returns c low rivals others stands stays link slot joined =
    own_joined low rivals others (holds stands) (holds stays) (λ j k. IsTrue (link j k)) slot joined
