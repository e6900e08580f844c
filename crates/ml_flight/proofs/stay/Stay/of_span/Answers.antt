use Rattle.std.proofs.Common.{arith}
use Rattle.ml_ratio.specs.Fraction.{IsLess, value_of}
use Rattle.ml_ratio.proofs.lemmas.Fractions.{less_at_most}
use Rattle.ml_flight.proofs.stay.Stay.of_span.Goals as goal

pub returns-else-is_less : goal.returns-else-is_less
returns-else-is_less c s = (
  λ h. absurd h,
  λ h.
      let beyond : IsLess s s = less_at_most s (value_of c.args.span.now.min) s (less_at_most s (value_of c.args.span.now.until) (value_of c.args.span.now.min) h.1.1 c.if-is_less.ensures) h.1.0 in
      omega arith,
)
