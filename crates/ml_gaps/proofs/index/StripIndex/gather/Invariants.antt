use Rattle.std.specs.Prelude.{take}
use Rattle.ml_gaps.specs.Bundle.{HasStrip}
use Rattle.ml_gaps.specs.Places.{Gathers}
use Rattle.ml_gaps.proofs.index.StripIndex.gather.Given as goal

abbrev pub invariant-loop-bundle : goal.invariant-loop-bundle
invariant-loop-bundle l = Gathers l.at l.reach (HasStrip (take l.bundle-index l.self.bundles.items)) l.initial.places.items l.places.items
