use Rattle.std.specs.Prelude.{◌≡◌, ℤ, ◌≤ℤ◌}
use Rattle.ml_ratio.specs.Fraction.{value_of, IsAtMost}
use Rattle.ml_ratio.specs.declared.ratio.Ratio.{Ratio}
use Rattle.ml_cone.specs.declared.cells.Cells.{Cells}
use Rattle.ml_grid.specs.Entry.{Entry}
use Rattle.ml_grid.specs.Found.{IsAmong}

-- the entry's cell is one of the column x of the cells
abbrev pub IsInColumn : Cells → ℤ → Entry → Type 0
IsInColumn cells x e = (e.key.band ≡ cells.band) × (e.key.x ≡ x) × (cells.y0 ≤ℤ e.key.y) × (e.key.y ≤ℤ cells.y1)

-- the entry's cell is one of the column x of the cells, and it ends at the scale at the earliest
abbrev pub IsInColumnFrom : Cells → ℤ → Ratio → Entry → Type 0
IsInColumnFrom cells x s e = IsInColumn cells x e × IsAtMost (value_of s) (value_of e.end)

-- the entry's cell is one of the cells, and it ends at the scale at the earliest
abbrev pub IsAmongFrom : Cells → Ratio → Entry → Type 0
IsAmongFrom cells s e = IsAmong cells e × IsAtMost (value_of s) (value_of e.end)
