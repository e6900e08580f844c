use Rattle.std.proofs.Common.{List, ◌≤◌}
use Rattle.ml_ratio.specs.Fraction.{value_of}
use Rattle.ml_cone.specs.declared.label.Label.{Label}
use Rattle.ml_conflict.specs.Strip.{AreStrips, AreAway}
use Rattle.ml_conflict.proofs.strip.Field.pass_west.Given as goal

abbrev pub invariant-loop-at : goal.invariant-loop-at
invariant-loop-at l = record {
  until : l.at ≤ l.until;
  away : (labels : List Label) → AreStrips labels l.self.strips.items → AreAway labels l.self.strips.items l.at l.until l.area (value_of l.bound);
}

abbrev pub decreases-loop-at : goal.decreases-loop-at
decreases-loop-at l = l.at
