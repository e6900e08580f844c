use Rattle.std.specs.Prelude.{ℕ, zero, suc, ◌≡◌, ◌≢◌, ◌+◌, ◌*◌, ◌/◌, ◌%◌, ◌^◌, ◌==◌, ◌&&◌, ◌||◌, Bool, nat_lt, nat_le, if◌then◌else◌, List, length, Contains, ◌↔◌, ℤ, pos, ◌+ℤ◌, ◌-ℤ◌, ◌≤ℤ◌}
use Rattle.std.specs.Int.RustNames.{unsigned_abs}
use Rattle.std.specs.List.{AllPairs}
use Rattle.ml_cone.specs.Hull.{hull_of}
use Rattle.ml_cone.specs.declared.cells.Cells.{Cells}
use Rattle.ml_cone.specs.declared.label.Label.{Label}
use Rattle.ml_grid.specs.Entry.{Entry}
use Rattle.ml_grid.specs.declared.cell.Cell.{Cell}

-- between one and nine columns, or rows: at most four for a label, nine for a window
abbrev pub AreUpToNine : ℤ → ℤ → Type 0
AreUpToNine c d = (c ≤ℤ d) × (d ≤ℤ (c +ℤ pos 8))

-- how many columns, or rows, there are from c to d
abbrev pub count_between : ℤ → ℤ → ℕ
count_between c d = unsigned_abs (d -ℤ c) + 1

-- how many cells there are
abbrev pub cell_count : Cells → ℕ
cell_count cells = count_between cells.x0 cells.x1 * count_between cells.y0 cells.y1

-- the i-th of the cells, column by column
abbrev pub cell_in : Cells → ℕ → Cell
cell_in cells i = record { band = cells.band; x = cells.x0 +ℤ pos (i / count_between cells.y0 cells.y1); y = cells.y0 +ℤ pos (i % count_between cells.y0 cells.y1) }

-- whether band k meets the label's selectable range, both ends counted in
unfoldable pub meets_band : Label → ℕ → Bool
meets_band a k = nat_lt a.min.num (2 ^ (k + 1) * a.min.den) && ((k == 0) || nat_le (2 ^ k * a.max.den) a.max.num)

-- how many entries the label has in band k: the cells of its hull there, if the band meets its selectable range
unfoldable pub band_count : Label → ℕ → ℕ
band_count a k = if meets_band a k then cell_count (hull_of a k) else 0

-- how many entries the label has in the bands below k
unfoldable pub entries_below : Label → ℕ → ℕ
entries_below a zero = 0
entries_below a (suc k) = entries_below a k + band_count a k

-- how many entries the label has, in the bands 0 to 27
unfoldable pub entry_count : Label → ℕ
entry_count a = entries_below a 28

-- the entries with the property are n: some list of this length has just them, no two alike
pub record AreCounted (P : Entry → Type 0) (n : ℕ) : Type 0 where
  pub entries : List Entry
  pub apart : AllPairs (λ e f. e ≢ f) entries
  pub just_them : (e : Entry) → Contains entries e ↔ P e
  pub many : length entries ≡ n
