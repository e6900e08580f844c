use Rattle.std.proofs.Common.{inr, refl, arith}
use Rattle.ml_ratio.specs.Fraction.{IsLess, value_of}
use Rattle.ml_ratio.proofs.lemmas.Fractions.{less_at_most}
use Rattle.ml_gaps.proofs.choice.add_strip.Goals as goal

pub returns-else-is_less-clause-adds : goal.returns-else-is_less-clause-adds
returns-else-is_less-clause-adds c = inr (
  refl,
  λ s active.
      let from = value_of c.args.gap.now.from in
      let until = value_of c.args.gap.now.until in
      let below : IsLess s from = less_at_most s until from active.1 (let e = c.if-is_less.ensures in omega arith) in
      let above = active.0 in
      omega arith,
)
