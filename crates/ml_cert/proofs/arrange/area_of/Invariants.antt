use Rattle.std.proofs.Common.{ℕ, ◌<◌, get_or}
use Rattle.ml_cone.specs.declared.label.Label.{Label}
use Rattle.ml_conflict.specs.Area.{IsInArea}
use Rattle.ml_conflict.specs.declared.spot.Spot.{Spot}
use Rattle.ml_cert.proofs.arrange.area_of.Given as goal

abbrev pub invariant-loop-k : goal.invariant-loop-k
invariant-loop-k l = (k : ℕ) (s : Spot) (d : Label) → k < l.k → IsInArea (get_or l.labels (get_or l.spots k s).place d) l.area
