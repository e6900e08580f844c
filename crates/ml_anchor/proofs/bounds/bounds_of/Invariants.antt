use Rattle.std.proofs.Common.{take}
use Rattle.ml_anchor.specs.Ring.{AreBoundsOf}
use Rattle.ml_anchor.proofs.bounds.bounds_of.Given as goal

abbrev pub invariant-loop-i : goal.invariant-loop-i
invariant-loop-i l = AreBoundsOf (take l.i l.ring) l.bounds.west l.bounds.east l.bounds.south l.bounds.north
