use Rattle.std.proofs.Common.{◌↔◌, None}
use Rattle.ml_ratio.specs.Fraction.{Fraction, IsLess}
use Rattle.ml_ratio.specs.Quotient.{worth}
use Rattle.ml_conflict.specs.Between.{IsUnder, LiesIn}
use Rattle.ml_conflict.proofs.Openness.{none_bound}
use Rattle.ml_conflict.proofs.Beginnings.{begins_here, begins_late, begins_never}
use Rattle.ml_conflict.proofs.begin.begin_one.Goals as goal

pub returns-in-None : goal.returns-in-None
returns-in-None c =
    rw c.in-None.is (none_bound (LiesIn worth None) (worth c.args.start) (worth c.args.until) (worth c.args.best) c.requires (λ s scale p r k. absurd k))

pub returns-then-is_less-2 : goal.returns-then-is_less-2
returns-then-is_less-2 c =
    let says : (s : Fraction) → LiesIn worth c.args.between s ↔ (IsLess (worth c.in-Some.low) s × IsUnder worth c.in-Some.end s) = λ s. rw c.in-Some.is (λ h. h, λ h. h) in
    begins_here (LiesIn worth c.args.between) (worth c.args.start) (worth c.args.until) (worth c.args.best) (worth c.in-Some.low) (IsUnder worth c.in-Some.end) says
    (worth c.larger-first.result) (worth c.stop-last.result) c.larger-first.ensures.at_most c.stop-last.ensures c.if-is_less.ensures c.if-is_less-2.ensures

pub returns-else-is_less-2 : goal.returns-else-is_less-2
returns-else-is_less-2 c =
    let says : (s : Fraction) → LiesIn worth c.args.between s ↔ (IsLess (worth c.in-Some.low) s × IsUnder worth c.in-Some.end s) = λ s. rw c.in-Some.is (λ h. h, λ h. h) in
    begins_late (LiesIn worth c.args.between) (worth c.args.start) (worth c.args.until) (worth c.args.best) (worth c.in-Some.low) (IsUnder worth c.in-Some.end) says
    (worth c.larger-first.result) c.requires c.larger-first.ensures.at_most c.if-is_less-2.ensures

pub returns-else-is_less : goal.returns-else-is_less
returns-else-is_less c =
    let says : (s : Fraction) → LiesIn worth c.args.between s ↔ (IsLess (worth c.in-Some.low) s × IsUnder worth c.in-Some.end s) = λ s. rw c.in-Some.is (λ h. h, λ h. h) in
    begins_never (LiesIn worth c.args.between) (worth c.args.start) (worth c.args.until) (worth c.args.best) (worth c.in-Some.low) (IsUnder worth c.in-Some.end) says
    (worth c.larger-first.result) (worth c.stop-last.result) c.requires c.larger-first.ensures.at_most c.stop-last.ensures c.if-is_less.ensures
