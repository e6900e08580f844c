use Rattle.std.proofs.Common.{arith}
use Rattle.ml_ratio.specs.Fraction.{IsLess, value_of}
use Rattle.ml_ratio.proofs.lemmas.Fractions.{less_at_most, at_most_less, less_trans}
use Rattle.ml_ratio.proofs.lemmas.Intervals.{from_least, from_above}
use Rattle.ml_flight.proofs.stay.Stay.above.Goals as goal

pub returns-then-is_less : goal.returns-then-is_less
returns-then-is_less c s = (
  λ h. (h, less_at_most (value_of c.args.bound) (value_of c.args.self.from) s c.if-is_less.ensures (from_least c.args.self.from_in (value_of c.args.self.from) s h.0)),
  λ h. h.0,
)

pub returns-then-is_less-2 : goal.returns-then-is_less-2
returns-then-is_less-2 c s = (
  λ h. ((from_above c.args.self.from_in (value_of c.args.self.from) s (at_most_less (value_of c.args.self.from) (value_of c.args.bound) s c.if-is_less.ensures h.0), h.1), h.0),
  λ h. (h.1, h.0.1),
)

pub returns-else-is_less-2 : goal.returns-else-is_less-2
returns-else-is_less-2 c s = (
  λ h. absurd h,
  λ h.
      let beyond : IsLess s s = less_trans s (value_of c.args.bound) s (less_at_most s (value_of c.args.self.to) (value_of c.args.bound) h.0.1 c.if-is_less-2.ensures) h.1 in
      omega arith,
)
