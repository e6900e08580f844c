use Rattle.std.specs.Prelude.{take}
use Rattle.ml_gaps.specs.Bundle.{IsOneOf}
use Rattle.ml_gaps.specs.Places.{Gathers}
use Rattle.ml_gaps.proofs.bundle.Bundle.gather.Given as goal

abbrev pub invariant-loop-strip : goal.invariant-loop-strip
invariant-loop-strip l = Gathers l.at l.reach (IsOneOf (take l.strip-index l.self.strips.items)) l.initial.places.items l.places.items
