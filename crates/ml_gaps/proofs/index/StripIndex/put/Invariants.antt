use Rattle.std.proofs.Common.{◌+◌, ◌-◌, ◌↔◌, length}
use Rattle.std.specs.Prelude.{All}
use Rattle.ml_gaps.specs.Bundle.{IsBundle, HasStrip}
use Rattle.ml_gaps.specs.declared.strip.Strip.{Strip}
use Rattle.ml_gaps.proofs.index.StripIndex.put.Given as goal

abbrev pub invariant-loop-alloc : goal.invariant-loop-alloc
invariant-loop-alloc l = record {
  bundles : All IsBundle l.self.bundles.items;
  same : (other : Strip) → HasStrip l.self.bundles.items other ↔ HasStrip l.initial.self.bundles.items other;
}

abbrev pub decreases-loop-alloc : goal.decreases-loop-alloc
decreases-loop-alloc l = l.home + 1 - length l.self.bundles.items
