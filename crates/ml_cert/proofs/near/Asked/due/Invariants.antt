use Rattle.ml_cone.specs.Slots.{ends}
use Rattle.ml_cert.specs.Near.{IsDueAmong}
use Rattle.ml_cert.specs.Strips.{SeesStrip}
use Rattle.ml_cert.proofs.near.Asked.due.Given as goal

abbrev pub invariant-loop-k : goal.invariant-loop-k
invariant-loop-k l = IsDueAmong l.self.labels.now (ends l.self.slots.now) l.self.place (SeesStrip l.field.spots.now l.field.strips.now l.k) l.due
