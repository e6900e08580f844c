use Rattle.std.specs.Prelude.{ℕ, ◌≡◌, ◌<◌}
use Rattle.ml_ratio.specs.declared.ratio.Ratio.{Ratio}
use Rattle.ml_cone.specs.declared.cells.Cells.{Cells}
use Rattle.ml_spans.specs.Spans.{entry_of}
use Rattle.ml_grid.specs.Count.{cell_in}
use Rattle.ml_grid.specs.Entry.{Entry, IsEntryOf}
use Rattle.ml_cone.specs.declared.label.Label.{Label}

-- the entry is one of the first n of the cells, with this number and this end
abbrev pub IsEntryAmong : ℕ → Ratio → Cells → ℕ → Entry → Type 0
IsEntryAmong number until cells n e = (i : ℕ) × (i < n) × (e ≡ (entry_of (cell_in cells i) until number))

-- the entry is one of the label's in band k
abbrev pub IsEntryAt : ℕ → Label → Ratio → ℕ → Entry → Type 0
IsEntryAt number a until k e = IsEntryOf number a until e × (e.key.band ≡ k)
