use Rattle.std.proofs.Common.{◌≡◌, ℕ, Bool, true, false, not, arith, refl}
use Rattle.std.specs.Prelude.{MatchBool, IsFalse}
use Rattle.ml_ratio.specs.Fraction.{Fraction, IsLess, IsAtMost}
use Rattle.ml_ratio.proofs.lemmas.Fractions.{less_at_most}
use Rattle.ml_cone.specs.Overlap.{Overlap}
use Rattle.ml_cone.specs.Near.{IsUpTo, AreApart, AreNear}
use Rattle.ml_cone.specs.declared.label.Label.{Label}
use Rattle.ml_conflict.specs.Begin.{Clear}
use Rattle.ml_ratio.specs.Quotient.{worth}
use Rattle.ml_conflict.proofs.block.may_overlap.Goals as goal

-- labels that are apart up to a fraction overlap nowhere below it
apart_clear : (low high : Label) (start last : Fraction) (num den : ℕ) (b : Bool) → num ≡ last.num → den ≡ last.den →
    MatchBool b (AreApart low high num den) (AreNear low high num den) → IsFalse (not b) → Clear (λ s. Overlap low high s) start last last
unfolding Clear
apart_clear low high start last num den true e f apart is = λ s scale from less under over.
    let upto : IsUpTo num den s = rw (e, f) (omega arith) in
    apart s upto over
apart_clear low high start last num den false e f near is = let h : true ≡ false = is in absurd (cc)

-- no scale lies between where there is no room
late_clear : (low high : Label) (start last : Fraction) → IsAtMost last start → Clear (λ s. Overlap low high s) start last last
unfolding Clear
late_clear low high start last late s scale from less under over =
    let m : IsLess s start = less_at_most s last start less late in
    absurd (omega arith)

pub returns-else-are_near-clause-none : goal.returns-else-are_near-clause-none
returns-else-are_near-clause-none c is =
    apart_clear c.args.low.now c.args.high.now (worth c.args.start) (worth c.args.last) _ _ c.are_apart.result refl refl c.are_apart.ensures is

pub returns-then-not-is_less-clause-none : goal.returns-then-not-is_less-clause-none
returns-then-not-is_less-clause-none c is = late_clear c.args.low.now c.args.high.now (worth c.args.start) (worth c.args.last) c.if-not-is_less.ensures
