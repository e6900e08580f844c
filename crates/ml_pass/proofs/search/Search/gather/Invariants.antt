use Rattle.std.proofs.Common.{◌+◌, ◌-◌, ◌≤◌, length}
use Rattle.ml_ratio.specs.Fraction.{value_of}
use Rattle.ml_conflict.specs.Strip.{SeesStrip}
use Rattle.ml_pass.specs.Search.{rivals_in, IsSearched}
use Rattle.ml_pass.proofs.search.Search.gather.Given as goal

abbrev pub invariant-loop-seen : goal.invariant-loop-seen
invariant-loop-seen l = record {
  left : l.seen.left ≤ l.start;
  right : l.start ≤ l.seen.right;
  within : l.seen.right ≤ length l.field.strips.items;
  searched : IsSearched l.self.low.now (rivals_in l.self.labels.now l.self.slots.now l.self.low.now) (length l.self.slots.now)
      (SeesStrip l.field.strips.items l.seen.left l.seen.right) (value_of l.self.low.now.max) (value_of l.seen.bound) l.initial.places.items l.places.items;
}

abbrev pub decreases-loop-seen : goal.decreases-loop-seen
decreases-loop-seen l = l.seen.left + (length l.field.strips.items - l.seen.right)
