-- What a loop over bands or columns has come to.
use Rattle.std.specs.Prelude.{ℕ, ◌≡◌, ◌<◌, ◌≤ℤ◌, ◌<ℤ◌, pos, ◌+ℤ◌}
use Rattle.ml_ratio.specs.Fraction.{value_of, IsAtMost}
use Rattle.ml_ratio.specs.declared.ratio.Ratio.{Ratio}
use Rattle.ml_cone.specs.declared.cells.Cells.{Cells}
use Rattle.ml_cone.specs.declared.label.Label.{Label}
use Rattle.ml_grid.specs.Entry.{Entry, IsEntryOf}

-- the entry is one of the label's in the bands below k
abbrev pub IsEntryBelow : ℕ → Label → Ratio → ℕ → Entry → Type 0
IsEntryBelow number a until k e = IsEntryOf number a until e × (e.key.band < k)

-- the entry is in one of the first n columns of the cells
abbrev pub IsAmongFirst : Cells → ℕ → Entry → Type 0
IsAmongFirst cells n e = (e.key.band ≡ cells.band) × (cells.x0 ≤ℤ e.key.x) × (e.key.x <ℤ (cells.x0 +ℤ pos n)) × (cells.y0 ≤ℤ e.key.y) × (e.key.y ≤ℤ cells.y1)

-- and it ends at the scale at the earliest
abbrev pub IsAmongFirstFrom : Cells → Ratio → ℕ → Entry → Type 0
IsAmongFirstFrom cells s n e = IsAmongFirst cells n e × IsAtMost (value_of s) (value_of e.end)
