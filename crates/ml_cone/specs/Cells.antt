use Rattle.std.specs.Prelude.{ℕ, ◌+◌, ◌*◌, ◌^◌, ℤ, pos, ◌+ℤ◌, ◌*ℤ◌, ◌<ℤ◌, ◌≤ℤ◌}
use Rattle.std.specs.Int.{int_div_euclid}
use Rattle.ml_ratio.specs.Fraction.{Fraction}
use Rattle.ml_cone.specs.Plane.{edge}
use Rattle.ml_cone.specs.declared.cells.Cells.{Cells}

-- how many world units the side of a cell of band k has
abbrev pub cell_side : ℕ → ℕ
cell_side k = 1024 * 2 ^ k

-- the column of cells of band j in which the place u pixels from x lies where a pixel is 2^(k+1) units, rounded down
abbrev pub column_of : ℤ → ℤ → ℕ → ℕ → ℤ
column_of x u k j = int_div_euclid (x +ℤ (u *ℤ pos (2 ^ (k + 1)))) (pos (cell_side j))

-- the same with cells of the band k itself
abbrev pub cell_at : ℤ → ℤ → ℕ → ℤ
cell_at x u k = column_of x u k k

-- the cell (x, y) is among the cells
abbrev pub IsAmongCells : Cells → ℤ → ℤ → Type 0
IsAmongCells cells x y = (cells.x0 ≤ℤ x) × (x ≤ℤ cells.x1) × (cells.y0 ≤ℤ y) × (y ≤ℤ cells.y1)

-- at the scale s the side (x + l*s, x + r*s) lies within the columns from c to d of band k
abbrev pub SideInColumns : ℤ → ℤ → ℤ → ℕ → ℤ → ℤ → Fraction → Type 0
SideInColumns x l r k c d s =
    ((c *ℤ pos (cell_side k * s.den)) ≤ℤ edge x l s) × (edge x r s <ℤ ((d +ℤ pos 1) *ℤ pos (cell_side k * s.den)))
