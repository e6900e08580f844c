use Rattle.std.proofs.Common.{length}
use Rattle.ml_ratio.specs.Fraction.{value_of}
use Rattle.ml_conflict.specs.Field.{SeesSpot}
use Rattle.ml_pass.specs.Search.{rivals_in, IsSearched}
use Rattle.ml_pass.proofs.search.Search.north.Given as goal

abbrev pub invariant-loop-right : goal.invariant-loop-right
invariant-loop-right l =
    IsSearched l.self.low.now (rivals_in l.self.labels.now l.self.slots.now l.self.low.now) (length l.self.slots.now)
    (SeesSpot l.strip.spots.items l.fn.seen.right l.right) (value_of l.fn.seen.bound) (value_of l.bound) l.initial.places.items l.places.items
