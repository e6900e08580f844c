use Rattle.std.proofs.Common.{arith}
use Rattle.ml_ratio.specs.Fraction.{value_of, IsLess, IsAtMost}
use Rattle.ml_ratio.proofs.lemmas.Fractions.{less_at_most, at_most_less, less_trans}
use Rattle.ml_gaps.proofs.piece.Piece.cut.Goals as goal

pub returns-then-is_less-2 : goal.returns-then-is_less-2
returns-then-is_less-2 c s =
    let end = c.nearer-to.ensures s in (
      λ h. let e = end.0 h.1 in ((h.0, e.0), (less_at_most (value_of c.args.between.0) (value_of c.args.from) s c.if-is_less.ensures h.0, e.1)),
      λ h. (h.0.0, end.1 (h.0.1, h.1.1)),
    )

pub returns-else-is_less-2 : goal.returns-else-is_less-2
returns-else-is_less-2 c s = (
  λ h. absurd h,
  λ h.
      let below : IsLess s (value_of c.nearer-to.result) = (c.nearer-to.ensures s).1 (h.0.1, h.1.1) in
      let beyond : IsLess s s = less_at_most s (value_of c.args.from) s (less_at_most s (value_of c.nearer-to.result) (value_of c.args.from) below c.if-is_less-2.ensures) h.0.0 in
      omega arith,
)

pub returns-then-is_less-3 : goal.returns-then-is_less-3
returns-then-is_less-3 c s =
    let end = c.nearer-to.ensures s in (
      λ h.
          let e = end.0 h.1 in
          let above : IsLess (value_of c.args.from) s = at_most_less (value_of c.args.from) (value_of c.args.between.0) s c.if-is_less.ensures h.0 in
          let from : IsAtMost (value_of c.args.from) s = omega arith in
          ((from, e.0), (h.0, e.1)),
      λ h. (h.1.0, end.1 (h.0.1, h.1.1)),
    )

pub returns-else-is_less-3 : goal.returns-else-is_less-3
returns-else-is_less-3 c s = (
  λ h. absurd h,
  λ h.
      let below : IsLess s (value_of c.nearer-to.result) = (c.nearer-to.ensures s).1 (h.0.1, h.1.1) in
      let beyond : IsLess s s = less_trans s (value_of c.args.between.0) s (less_at_most s (value_of c.nearer-to.result) (value_of c.args.between.0) below c.if-is_less-3.ensures) h.1.0 in
      omega arith,
)
