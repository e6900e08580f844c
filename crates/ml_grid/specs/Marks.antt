-- Numbers that stand for entries. Their digits are, from the greatest on, the band, the column and the row above the least ones, and the number.
use Rattle.std.specs.Prelude.{ℕ, ◌/◌, ◌%◌, ◌^◌, List, map, slice_index_or, ℤ, pos, negsuc, ◌-ℤ◌, ◌≤ℤ◌}
use Rattle.ml_ratio.specs.declared.ratio.Ratio.{Ratio}
use Rattle.ml_cone.specs.declared.cells.Cells.{Cells}
use Rattle.ml_spans.specs.Spans.{entry_of}
use Rattle.ml_grid.specs.Entry.{Entry}
use Rattle.ml_grid.specs.declared.cell.Cell.{Cell}
use Rattle.ml_grid.specs.declared.marks.Ends.{Ends}

-- the cell that is marked
abbrev pub cell_marked : ℕ → Cell
cell_marked m = record { band = m / 2 ^ 15 / 2 ^ 22 / 2 ^ 22; x = pos (m / 2 ^ 15 / 2 ^ 22 % 2 ^ 22) -ℤ pos 2097152; y = pos (m / 2 ^ 15 % 2 ^ 22) -ℤ pos 2097152 }

-- the number that is marked
abbrev pub number_marked : ℕ → ℕ
number_marked m = m % 2 ^ 15

-- the end of the label with the number
abbrev pub end_by : Ends → ℕ → Ratio
end_by ends number = slice_index_or ends.by_number.items number ends.other

-- the entry that is marked
abbrev pub entry_marked : Ends → ℕ → Entry
entry_marked ends m = entry_of (cell_marked m) (end_by ends (number_marked m)) (number_marked m)

-- the entries that are marked
abbrev pub marked : Ends → List ℕ → List Entry
marked ends marks = map (entry_marked ends) marks

-- a column, or a row, that a mark has a digit for
abbrev pub IsDigit : ℤ → Type 0
IsDigit c = (negsuc 2097151 ≤ℤ c) × (c ≤ℤ pos 2097151)

-- and the same of all columns and rows of the cells
abbrev pub AreDigits : Cells → Type 0
AreDigits cells = (negsuc 2097151 ≤ℤ cells.x0) × (cells.x1 ≤ℤ pos 2097151) × (negsuc 2097151 ≤ℤ cells.y0) × (cells.y1 ≤ℤ pos 2097151)
