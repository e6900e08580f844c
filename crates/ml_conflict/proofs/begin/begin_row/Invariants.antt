use Rattle.std.proofs.Common.{take}
use Rattle.std.specs.Prelude.{Any}
use Rattle.ml_ratio.specs.Quotient.{worth}
use Rattle.ml_cone.specs.Overlap.{BoxesOverlap}
use Rattle.ml_conflict.specs.Begin.{Begins}
use Rattle.ml_conflict.proofs.begin.begin_row.Given as goal

abbrev pub invariant-loop-q : goal.invariant-loop-q
invariant-loop-q l = Begins (λ s. Any (λ q. BoxesOverlap l.low l.p l.high q s) (take l.q-index l.high.boxes)) (worth l.start) (worth l.until) (worth l.initial.first) (worth l.first)
