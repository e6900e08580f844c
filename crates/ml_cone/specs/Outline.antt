-- The outline of labels: what tells where another label must be searched for them.
use Rattle.std.specs.Prelude.{ℕ, ◌+◌, ◌*◌, ◌^◌, ◌<◌, ◌≤◌, ◌⊎◌, ℤ, pos, ◌*ℤ◌, ◌≤ℤ◌}
use Rattle.ml_ratio.specs.Fraction.{Fraction, value_of, IsAtMost}
use Rattle.ml_ratio.specs.Band.{IsInBand, MeetsBand}
use Rattle.ml_cone.specs.Overlap.{Overlap}
use Rattle.ml_cone.specs.Cell.{IsInCell, SharedCell, IsLastBand}
use Rattle.ml_cone.specs.Cells.{IsAmongCells, cell_side}
use Rattle.ml_cone.specs.Hull.{Holds, reach_of}
use Rattle.ml_cone.specs.declared.cells.Cells.{Cells}
use Rattle.ml_cone.specs.declared.label.Label.{Label}
use Rattle.ml_cone.specs.declared.outline.Outline.{Outline}

-- the two labels overlap at a scale of band k that lies in the selectable range of the second, both ends counted in
pub record OverlapIn (a b : Label) (k : ℕ) : Type 0 where
  pub low : k < 28
  pub scale : Fraction
  pub in_band : IsInBand scale k
  pub begins : IsAtMost (value_of b.min) scale
  pub lasts : IsAtMost scale (value_of b.max)
  pub over : Overlap a b scale

-- a cell that both labels are kept in, in the last band of one of them
pub record LastCell (a b : Label) : Type 0 where
  pub cell : SharedCell a b
  pub last : IsLastBand a cell.band ⊎ IsLastBand b cell.band

-- a band in which the two labels overlap, and that meets both selectable ranges
pub record RivalBand (a b : Label) : Type 0 where
  pub band : ℕ
  pub first : MeetsBand band (value_of a.min) (value_of a.max)
  pub second : MeetsBand band (value_of b.min) (value_of b.max)
  pub over : OverlapIn a b band

-- the band of the fraction f, which meets the selectable range of the first label, and in which the two overlap
pub record BoundBand (a b : Label) (f : Fraction) : Type 0 where
  pub band : ℕ
  pub in_band : IsInBand f band
  pub first : MeetsBand band (value_of a.min) (value_of a.max)
  pub over : OverlapIn a b band

-- the label is within the outline: this reaches as far as the label to each side, the label's minimum is below the upper end of
-- the band in which all have begun, and its range ends in no band before the first one in which any does
pub record IsWithin (o : Outline) (a : Label) : Type 0 where
  pub reach : Holds o.reach (reach_of a)
  pub begins : a.min.num < 2 ^ (o.low + 1) * a.min.den
  pub ends : (k : ℕ) → IsLastBand a k → o.first_end ≤ k

-- the label is kept in one of the cells
pub record IsKeptAmong (cells : Cells) (a : Label) : Type 0 where
  pub x : ℤ
  pub y : ℤ
  pub among : IsAmongCells cells x y
  pub kept : IsInCell a cells.band x y

-- in one of the cells each label within the outline is kept that the label overlaps in any of the bands from k to m
abbrev pub HoldOverlapped : Outline → Label → ℕ → ℕ → Cells → Type 0
HoldOverlapped o label k m cells = (a : Label) (n : ℕ) → IsWithin o a → k ≤ n → n ≤ m → OverlapIn label a n → IsKeptAmong cells a

-- a band up to band k, and not below `low`, of whose cells a side takes four columns at most that has so many pixels at the upper end of band k
pub record IsFiner (low : ℕ) (width : ℤ) (k j : ℕ) : Type 0 where
  pub from : low ≤ j
  pub upto : j ≤ k
  pub few : (width *ℤ pos (2 ^ (k + 1))) ≤ℤ pos (3 * cell_side j)
