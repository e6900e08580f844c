-- Labels that are found by the grid.
use Rattle.std.specs.Prelude.{ℕ, ◌≡◌, ◌<◌, ◌≤◌, ◌⊎◌, ◌↔◌, ℤ, List, Contains}
use Rattle.ml_ratio.specs.Fraction.{value_of, IsAtMost}
use Rattle.ml_ratio.specs.declared.ratio.Ratio.{Ratio}
use Rattle.ml_cone.specs.Cells.{IsAmongCells}
use Rattle.ml_cone.specs.Cell.{IsInCell}
use Rattle.ml_cone.specs.Hull.{hull_of}
use Rattle.ml_cone.specs.Outline.{OverlapIn}
use Rattle.ml_cone.specs.declared.label.Label.{Label}
use Rattle.ml_cone.specs.declared.view.View.{View}
use Rattle.ml_grid.specs.Near.{IsNear}
use Rattle.ml_store.specs.Rows.{AreDifferent}
use Rattle.ml_store.specs.declared.row.Row.{Row}

-- a search for the one label in band k finds the other: that is kept there in a cell of the first one's hull
pub record IsFoundIn (one other : Label) (k : ℕ) : Type 0 where
  pub x : ℤ
  pub y : ℤ
  pub among : IsAmongCells (hull_of one k) x y
  pub kept : IsInCell other k x y

-- among the numbers are those of all labels that the label overlaps in band k and that are active up to the scale at least
abbrev pub AreOverlapping : List Row → Label → ℕ → Ratio → List ℕ → Type 0
AreOverlapping rows a k scale numbers =
    (r : Row) → Contains rows r → OverlapIn a r.label k → IsAtMost (value_of scale) (value_of r.slot.until) → Contains numbers r.number

-- among the numbers are those of all labels that the label overlaps in any of the bands from k on and before m
abbrev pub AreAcross : List Row → Label → ℕ → ℕ → List ℕ → Type 0
AreAcross rows a k m numbers =
    (r : Row) (n : ℕ) → Contains rows r → k ≤ n → n < m → OverlapIn a r.label n → Contains numbers r.number

-- of the labels that the label overlaps in any of the bands from k to m none is active up to the scale
abbrev pub NoneOverlaps : List Row → Label → ℕ → ℕ → Ratio → Type 0
NoneOverlaps rows a k m scale =
    (r : Row) (n : ℕ) → Contains rows r → k ≤ n → n ≤ m → OverlapIn a r.label n → ¬ (IsAtMost (value_of scale) (value_of r.slot.until))

-- the number of a row with the property
abbrev pub IsNumberWith : (Row → Type 0) → List Row → ℕ → Type 0
IsNumberWith P rows n = (r : Row) × Contains rows r × (r.number ≡ n) × P r

-- the numbers with the property came in, and nothing else changed
abbrev pub Gathers : (ℕ → Type 0) → List ℕ → List ℕ → Type 0
Gathers P before after = (n : ℕ) → Contains after n ↔ (Contains before n ⊎ P n)

-- the numbers are those of the labels near the view, each once
pub record AreNearNumbers (rows : List Row) (view : View) (numbers : List ℕ) : Type 0 where
  pub differ : AreDifferent numbers
  pub near : (n : ℕ) → Contains numbers n ↔ IsNumberWith (λ r. IsNear r.label r.slot.until view) rows n
