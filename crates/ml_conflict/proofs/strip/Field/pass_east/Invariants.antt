use Rattle.std.proofs.Common.{List, ◌≤◌, ◌-◌, length}
use Rattle.ml_ratio.specs.Fraction.{value_of}
use Rattle.ml_cone.specs.declared.label.Label.{Label}
use Rattle.ml_conflict.specs.Strip.{AreStrips, AreAway}
use Rattle.ml_conflict.proofs.strip.Field.pass_east.Given as goal

abbrev pub invariant-loop-at : goal.invariant-loop-at
invariant-loop-at l = record {
  from : l.from ≤ l.at;
  within : l.at ≤ length l.self.strips.items;
  away : (labels : List Label) → AreStrips labels l.self.strips.items → AreAway labels l.self.strips.items l.from l.at l.area (value_of l.bound);
}

abbrev pub decreases-loop-at : goal.decreases-loop-at
decreases-loop-at l = length l.self.strips.items - l.at
