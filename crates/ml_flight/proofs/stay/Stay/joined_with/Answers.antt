use Rattle.std.proofs.Common.{inl, inr}
use Rattle.ml_ratio.specs.Fraction.{value_of}
use Rattle.ml_ratio.proofs.lemmas.Fractions.{less_at_most}
use Rattle.ml_flight.proofs.Joining.{joined_holds}
use Rattle.ml_flight.proofs.stay.Stay.joined_with.Goals as goal

pub invariant_of-result-clause-some : goal.invariant_of-result-clause-some
invariant_of-result-clause-some c = less_at_most (value_of c.args.self.now.from) (value_of c.args.self.now.to) (value_of c.later.result) c.args.self.now.some c.later.ensures.from

pub returns-clause-scales : goal.returns-clause-scales
returns-clause-scales c s = (
  λ h. joined_holds c.args.self.now c.args.next.now s c.requires.order c.requires.joins h.0 ((c.later.ensures.below s).0 h.1),
  λ h. elim h [
    | inl own ↦ (own.0, (c.later.ensures.below s).1 (inl own.1))
    | inr other ↦ (c.requires.order s other.0, (c.later.ensures.below s).1 (inr other.1))
  ],
)
