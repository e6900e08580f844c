use Rattle.std.proofs.Common.{arith}
use Rattle.ml_ratio.specs.Fraction.{IsLess}
use Rattle.ml_ratio.specs.Quotient.{worth}
use Rattle.ml_ratio.proofs.lemmas.Fractions.{less_trans}
use Rattle.ml_conflict.proofs.scales.kept.Goals as goal

pub returns-else-is_less-clause-same : goal.returns-else-is_less-clause-same
returns-else-is_less-clause-same c s = (
  λ h. absurd h,
  λ h.
      let e : IsLess s (worth c.in-Some.end) = rw c.in-Some.is at h.1 in
      let l : IsLess (worth c.args.a.0) (worth c.in-Some.end) = less_trans (worth c.args.a.0) s (worth c.in-Some.end) h.0 e in
      omega (arith, c.if-is_less.ensures),
)
