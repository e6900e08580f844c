use Rattle.std.proofs.Common.{take}
use Rattle.std.specs.Prelude.{Any}
use Rattle.ml_ratio.specs.Quotient.{worth}
use Rattle.ml_cone.specs.Overlap.{BoxOverlaps}
use Rattle.ml_conflict.specs.Begin.{Begins}
use Rattle.ml_conflict.proofs.begin.begin_all.Given as goal

abbrev pub invariant-loop-p : goal.invariant-loop-p
invariant-loop-p l = Begins (λ s. Any (λ p. BoxOverlaps l.low p l.high s) (take l.p-index l.low.boxes)) (worth l.start) (worth l.until) (worth l.initial.first) (worth l.first)
