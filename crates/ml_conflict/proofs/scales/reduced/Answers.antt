use Rattle.std.proofs.Common.{arith}
use Rattle.ml_ratio.specs.Fraction.{value_of, IsLess}
use Rattle.ml_ratio.proofs.lemmas.Fractions.{at_most_less, less_at_most}
use Rattle.ml_ratio.specs.Quotient.{worth}
use Rattle.ml_conflict.proofs.scales.reduced.Goals as goal

pub returns-in-Some-clause-same : goal.returns-in-Some-clause-same
returns-in-Some-clause-same c s = (
  λ h. (
    at_most_less (worth c.args.between.0) (value_of c.reduced.result) s (omega arith) h.0,
    rw c.in-Some.is (less_at_most s (value_of c.reduced-in-Some.result) (worth c.in-Some.end) h.1 (omega arith)),
  ),
  λ h.
      let under : IsLess s (worth c.in-Some.end) = rw c.in-Some.is at h.1 in (
        at_most_less (value_of c.reduced.result) (worth c.args.between.0) s (omega arith) h.0,
        less_at_most s (worth c.in-Some.end) (value_of c.reduced-in-Some.result) under (omega arith),
      ),
)

pub returns-in-Some-clause-room : goal.returns-in-Some-clause-room
returns-in-Some-clause-room c room =
    let inside : IsLess (worth c.args.between.0) (worth c.in-Some.end) = rw c.in-Some.is at room in
    less_at_most (value_of c.reduced.result) (worth c.in-Some.end) (value_of c.reduced-in-Some.result)
    (at_most_less (value_of c.reduced.result) (worth c.args.between.0) (worth c.in-Some.end) (omega arith) inside) (omega arith)

pub returns-in-None-clause-same : goal.returns-in-None-clause-same
returns-in-None-clause-same c s = (
  λ h. (at_most_less (worth c.args.between.0) (value_of c.reduced-in-None.result) s (omega arith) h.0, rw c.in-None.is tt),
  λ h. (at_most_less (value_of c.reduced-in-None.result) (worth c.args.between.0) s (omega arith) h.0, tt),
)
