use Rattle.std.specs.Prelude.{ℕ, ◌≡◌, ◌<◌, ◌++◌, List, Contains, ◌⊎◌, ◌↔◌}
use Rattle.std.specs.List.Sorted.{IsStrictlyIncreasing}
use Rattle.ml_ratio.specs.Fraction.{value_of, IsAtMost}
use Rattle.ml_ratio.specs.Band.{IsInBand}
use Rattle.ml_cone.specs.Cells.{IsAmongCells}
use Rattle.ml_cone.specs.Cell.{CellInView}
use Rattle.ml_cone.specs.Hull.{hull_of}
use Rattle.ml_cone.specs.declared.cells.Cells.{Cells}
use Rattle.ml_cone.specs.declared.label.Label.{Label}
use Rattle.ml_cone.specs.declared.view.View.{View}
use Rattle.ml_grid.specs.Entry.{Entry}

-- some entry has the property
abbrev pub HasEntry : (Entry → Type 0) → List Entry → Type 0
HasEntry P entries = (e : Entry) × Contains entries e × P e

-- some entry with the property has the number
abbrev pub IsNumberOf : (Entry → Type 0) → List Entry → ℕ → Type 0
IsNumberOf P entries n = (e : Entry) × Contains entries e × (e.value ≡ n) × P e

-- the numbers of the entries with the property, ascending and each once
pub record AreNumbers (P : Entry → Type 0) (entries : List Entry) (numbers : List ℕ) : Type 0 where
  pub ascending : IsStrictlyIncreasing numbers
  pub sound : (n : ℕ) → Contains numbers n → IsNumberOf P entries n
  pub whole : (n : ℕ) → IsNumberOf P entries n → Contains numbers n

-- the first of them: ascending, and with each number all that are less
pub record AreFirst (P : Entry → Type 0) (entries : List Entry) (numbers : List ℕ) : Type 0 where
  pub ascending : IsStrictlyIncreasing numbers
  pub sound : (n : ℕ) → Contains numbers n → IsNumberOf P entries n
  pub first : (n m : ℕ) → IsNumberOf P entries n → n < m → Contains numbers m → Contains numbers n

-- the numbers of the entries with the property were appended
abbrev pub AppendsNumbers : (Entry → Type 0) → List Entry → List ℕ → List ℕ → Type 0
AppendsNumbers P entries before after = (numbers : List ℕ) × (after ≡ before ++ numbers) × AreNumbers P entries numbers

-- the first of them were appended
abbrev pub AppendsFirst : (Entry → Type 0) → List Entry → List ℕ → List ℕ → Type 0
AppendsFirst P entries before after = (numbers : List ℕ) × (after ≡ before ++ numbers) × AreFirst P entries numbers

-- the entry's cell is one of the cells
abbrev pub IsAmong : Cells → Entry → Type 0
IsAmong cells e = (e.key.band ≡ cells.band) × IsAmongCells cells e.key.x e.key.y

-- the entry's cell is one of the label's hull in the band
abbrev pub IsInHull : Label → ℕ → Entry → Type 0
IsInHull a k e = (e.key.band ≡ k) × IsAmongCells (hull_of a k) e.key.x e.key.y

-- the entry is in the band of the view's scale, in a cell that meets the window, and ends at that scale at the earliest
pub record IsSeen (v : View) (e : Entry) : Type 0 where
  pub band : IsInBand (value_of v.scale) e.key.band
  pub meets : CellInView v e.key.band e.key.x e.key.y
  pub lasts : IsAtMost (value_of v.scale) (value_of e.end)

-- the numbers of the entries with the property came in, in whatever order and however often
abbrev pub Finds : (Entry → Type 0) → List Entry → List ℕ → List ℕ → Type 0
Finds P entries before after = (n : ℕ) → Contains after n ↔ (Contains before n ⊎ IsNumberOf P entries n)
