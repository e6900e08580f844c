use Rattle.std.proofs.Common.{inl, inr}
use Rattle.ml_ratio.specs.Fraction.{value_of}
use Rattle.ml_ratio.proofs.lemmas.Fractions.{less_at_most, less_trans}
use Rattle.ml_flight.proofs.stay.later.Goals as goal

pub returns-then-is_less-clause-below : goal.returns-then-is_less-clause-below
returns-then-is_less-clause-below c s = (λ h. inr h, λ h. elim h [ inl one ↦ less_trans s (value_of c.args.a) (value_of c.args.b) one c.if-is_less.ensures | inr two ↦ two ])

pub returns-else-is_less-clause-below : goal.returns-else-is_less-clause-below
returns-else-is_less-clause-below c s = (λ h. inl h, λ h. elim h [ inl one ↦ one | inr two ↦ less_at_most s (value_of c.args.b) (value_of c.args.a) two c.if-is_less.ensures ])
