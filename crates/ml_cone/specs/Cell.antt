use Rattle.std.specs.Prelude.{ℕ, ◌+◌, ◌*◌, ◌^◌, ◌<◌, ◌≤◌, ℤ, pos, ◌+ℤ◌, ◌-ℤ◌, ◌*ℤ◌, ◌<ℤ◌}
use Rattle.ml_ratio.specs.Fraction.{Fraction, value_of}
use Rattle.ml_ratio.specs.Band.{IsInBand, MeetsBand}
use Rattle.ml_cone.specs.Cells.{cell_side, IsAmongCells}
use Rattle.ml_cone.specs.Hull.{hull_of}
use Rattle.ml_cone.specs.declared.label.Label.{Label}
use Rattle.ml_cone.specs.declared.view.View.{View}

-- the label is kept in the cell (x, y) of band k: it is a band of scales, it meets the selectable range, both ends counted in, and the label's hull there has the cell
pub record IsInCell (a : Label) (k : ℕ) (x y : ℤ) : Type 0 where
  pub low : k < 28
  pub meets : MeetsBand k (value_of a.min) (value_of a.max)
  pub among : IsAmongCells (hull_of a k) x y

-- band k is the last one that the label's selectable range reaches into; what lies above all bands counts to the last
pub record IsLastBand (a : Label) (k : ℕ) : Type 0 where
  pub low : k < 28
  pub reaches : 0 < k → 2 ^ k * a.max.den ≤ a.max.num
  pub ends : k < 27 → a.max.num < 2 ^ (k + 1) * a.max.den

-- a cell that both labels are kept in
pub record SharedCell (a b : Label) : Type 0 where
  pub band : ℕ
  pub x : ℤ
  pub y : ℤ
  pub first : IsInCell a band x y
  pub second : IsInCell b band x y

-- a cell that both labels are kept in, in the band of the fraction f
pub record BoundCell (a b : Label) (f : Fraction) : Type 0 where
  pub band : ℕ
  pub x : ℤ
  pub y : ℤ
  pub in_band : IsInBand f band
  pub first : IsInCell a band x y
  pub second : IsInCell b band x y

-- the column x of cells of band k, its lower side counted in and its upper side left out, meets the window of w pixels about c
abbrev pub ColumnInWindow : ℕ → ℤ → ℤ → ℕ → Fraction → Type 0
ColumnInWindow k x c w s =
    ((pos 2 *ℤ (x *ℤ pos (cell_side k * s.den))) <ℤ ((pos 2 *ℤ (c *ℤ pos s.den)) +ℤ pos (w * s.num)))
    × (((pos 2 *ℤ (c *ℤ pos s.den)) -ℤ pos (w * s.num)) <ℤ (pos 2 *ℤ ((x +ℤ pos 1) *ℤ pos (cell_side k * s.den))))

-- the square of the cell (x, y) of band k, lower sides counted in and upper sides left out, meets the view's window
abbrev pub CellInView : View → ℕ → ℤ → ℤ → Type 0
CellInView v k x y = ColumnInWindow k x v.cx v.w (value_of v.scale) × ColumnInWindow k y v.cy v.h (value_of v.scale)

-- a cell of the label's hull in band k that meets the view's window
pub record SeenCell (a : Label) (v : View) (k : ℕ) : Type 0 where
  pub x : ℤ
  pub y : ℤ
  pub among : IsAmongCells (hull_of a k) x y
  pub in_view : CellInView v k x y
