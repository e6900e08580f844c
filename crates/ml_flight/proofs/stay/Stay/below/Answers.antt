use Rattle.std.proofs.Common.{arith}
use Rattle.ml_ratio.specs.Fraction.{IsLess, IsAtMost, value_of}
use Rattle.ml_ratio.proofs.lemmas.Fractions.{less_at_most, less_trans}
use Rattle.ml_ratio.proofs.lemmas.Intervals.{from_least}
use Rattle.ml_flight.proofs.stay.Stay.below.Goals as goal

pub returns-then-is_less : goal.returns-then-is_less
returns-then-is_less c s = (λ h. (h, less_trans s (value_of c.args.self.to) (value_of c.args.bound) h.1 c.if-is_less.ensures), λ h. h.0)

pub returns-then-is_less-2 : goal.returns-then-is_less-2
returns-then-is_less-2 c s = (
  λ h. ((h.0, less_at_most s (value_of c.args.bound) (value_of c.args.self.to) h.1 c.if-is_less.ensures), h.1),
  λ h. (h.0.0, h.1),
)

pub returns-else-is_less-2 : goal.returns-else-is_less-2
returns-else-is_less-2 c s = (
  λ h. absurd h,
  λ h.
      let low : IsAtMost (value_of c.args.self.from) s = from_least c.args.self.from_in (value_of c.args.self.from) s h.0.0 in
      let beyond : IsLess s s = less_at_most s (value_of c.args.self.from) s (less_at_most s (value_of c.args.bound) (value_of c.args.self.from) h.1 c.if-is_less-2.ensures) low in
      omega arith,
)
