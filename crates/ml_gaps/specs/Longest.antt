use Rattle.ml_ratio.specs.Fraction.{Fraction, IsAtMost, IsSame}
use Rattle.ml_cone.specs.Range.{ActiveBetween}
use Rattle.ml_cone.specs.declared.label.Label.{Label}
use Rattle.ml_gaps.specs.Gap.{IsGapOf, length_of}

-- the range is a gap of the label in which nothing of a set lies
pub record IsClearGap (a : Label) (K : Fraction → Type 0) (from until : Fraction) : Type 0 where
  pub is_gap : IsGapOf a from until
  pub clear : (s : Fraction) → ActiveBetween from until s → ¬ (K s)

-- of such gaps it is the longest, and of several as long the one that begins first
pub record IsLongestOf (a : Label) (K : Fraction → Type 0) (from until : Fraction) : Type 0 where
  pub is_clear : IsClearGap a K from until
  pub longest : (f u : Fraction) → IsClearGap a K f u → IsAtMost (length_of f u) (length_of from until)
  pub first : (f u : Fraction) → IsClearGap a K f u → IsSame (length_of f u) (length_of from until) → IsAtMost from f
