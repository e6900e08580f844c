use Rattle.std.proofs.Common.{◌≤◌, length}
use Rattle.ml_ratio.specs.Fraction.{value_of}
use Rattle.ml_conflict.specs.Field.{SeesSpot}
use Rattle.ml_pass.specs.Search.{rivals_in, IsSearched}
use Rattle.ml_pass.proofs.search.Search.south.Given as goal

abbrev pub invariant-loop-left : goal.invariant-loop-left
invariant-loop-left l = record {
  least : l.until ≤ l.left;
  in_range : l.left ≤ l.fn.seen.left;
  searched : IsSearched l.self.low.now (rivals_in l.self.labels.now l.self.slots.now l.self.low.now) (length l.self.slots.now)
      (SeesSpot l.strip.spots.items l.left l.fn.seen.left) (value_of l.fn.seen.bound) (value_of l.bound) l.initial.places.items l.places.items;
}

abbrev pub decreases-loop-left : goal.decreases-loop-left
decreases-loop-left l = l.left
