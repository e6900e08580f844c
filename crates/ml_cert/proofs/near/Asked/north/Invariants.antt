use Rattle.std.proofs.Common.{ℕ, ◌⊎◌}
use Rattle.ml_cone.specs.Slots.{ends}
use Rattle.ml_conflict.specs.Field.{SeesSpot}
use Rattle.ml_cert.specs.Near.{IsDueAmong}
use Rattle.ml_cert.proofs.near.Asked.north.Given as goal

abbrev pub invariant-loop-right : goal.invariant-loop-right
invariant-loop-right l =
    IsDueAmong l.self.labels.now (ends l.self.slots.now) l.self.place (λ (j : ℕ). SeesSpot l.spots 0 l.start j ⊎ SeesSpot l.spots l.start l.right j) l.due
