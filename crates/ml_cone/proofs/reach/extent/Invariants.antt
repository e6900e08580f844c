use Rattle.std.proofs.Common.{◌≡◌, take}
use Rattle.std.specs.List.{fold}
use Rattle.ml_cone.specs.Hull.{join, no_reach}
use Rattle.ml_cone.specs.Overlap.{widened}
use Rattle.ml_cone.proofs.reach.extent.Given as goal

abbrev pub invariant-loop-p : goal.invariant-loop-p
invariant-loop-p l = l.all ≡ fold (λ all p. join all (widened l.label p)) no_reach (take l.p-index l.label.boxes)
