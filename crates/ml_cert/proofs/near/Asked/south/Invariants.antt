use Rattle.std.proofs.Common.{◌≤◌}
use Rattle.ml_cone.specs.Slots.{ends}
use Rattle.ml_conflict.specs.Field.{SeesSpot}
use Rattle.ml_cert.specs.Near.{IsDueAmong}
use Rattle.ml_cert.proofs.near.Asked.south.Given as goal

abbrev pub invariant-loop-left : goal.invariant-loop-left
invariant-loop-left l = record {
  in_range : l.left ≤ l.start;
  among : IsDueAmong l.self.labels.now (ends l.self.slots.now) l.self.place (SeesSpot l.spots l.left l.start) l.due;
}

abbrev pub decreases-loop-left : goal.decreases-loop-left
decreases-loop-left l = l.left
