use Rattle.std.proofs.Common.{◌↔◌, take}
use Rattle.std.specs.Prelude.{Any}
use Rattle.ml_ratio.specs.Fraction.{Fraction}
use Rattle.ml_flight.specs.Shown.{BoxInWindow}
use Rattle.ml_flight.specs.Stay.{HoldsScale, HaveScale}
use Rattle.ml_flight.proofs.timeline.box_stays.Given as goal

abbrev pub invariant-loop-p : goal.invariant-loop-p
invariant-loop-p l = (s : Fraction) → HaveScale l.pieces.items s ↔ (HoldsScale l.whole s × Any (λ p. BoxInWindow l.label l.at p s) (take l.p-index l.label.boxes))
