use Rattle.std.specs.Prelude.{◌*◌, ◌-◌}
use Rattle.std.proofs.Math.Nat.{mul-pos}
use Rattle.ml_ratio.specs.Fraction.{Fraction, value_of, IsAtMost}
use Rattle.ml_cone.specs.Range.{ActiveBetween}
use Rattle.ml_cone.specs.declared.label.Label.{Label}
use Rattle.ml_gaps.specs.declared.gap.Gap.{Gap}

-- a label with this gap is active at s
abbrev pub IsActive : Gap → Fraction → Type 0
IsActive gap s = ActiveBetween (value_of gap.from) (value_of gap.until) s

-- the range from one fraction until another is a gap of the label: it lies in its selectable range
pub record IsGapOf (a : Label) (from until : Fraction) : Type 0 where
  pub low : IsAtMost (value_of a.min) from
  pub order : IsAtMost from until
  pub high : IsAtMost until (value_of a.max)

-- how long a range is: the difference of its ends
unfoldable pub length_of : Fraction → Fraction → Fraction
length_of from until =
    record { num = until.num * from.den - from.num * until.den; den = until.den * from.den; positive = mul-pos until.positive from.positive }

-- how long a gap is
abbrev pub gap_length : Gap → Fraction
gap_length gap = length_of (value_of gap.from) (value_of gap.until)
