-- Heights along a run.
use Rattle.std.specs.Prelude.{◌≡◌, ℕ, ◌+◌, ◌-◌, ◌<◌, ℤ, ◌≤ℤ◌, ◌<ℤ◌, List, length, ◌⊎◌}
use Rattle.ml_ratio.specs.declared.geometry.Pos.{Pos}
use Rattle.ml_ratio.specs.Floor.{height_on}
use Rattle.ml_river.specs.Run.{x_at, y_at}

-- y is the height at x of a run whose x rises, rounded down, on the one edge that holds x; of two that meet there, the left one
pub record IsHeight (run : List Pos) (x y : ℤ) : Type 0 where
  pub edge : ℕ
  pub there : edge + 1 < length run
  pub after : (x_at run edge <ℤ x) ⊎ ((edge ≡ 0) × (x_at run 0 ≡ x))
  pub before : x ≤ℤ x_at run (edge + 1)
  pub height : y ≡ height_on (x_at run edge) (y_at run edge) (x_at run (edge + 1)) (y_at run (edge + 1)) x

-- x lies before the first or after the last position of a run
abbrev pub IsOutside : List Pos → ℤ → Type 0
IsOutside run x = (x <ℤ x_at run 0) ⊎ (x_at run (length run - 1) <ℤ x)

-- x strictly rises from each position to the next
abbrev pub IsRising : List Pos → Type 0
IsRising run = (k : ℕ) → k + 1 < length run → x_at run k <ℤ x_at run (k + 1)

-- x lies from the first to the last position of a run
abbrev pub IsWithin : List Pos → ℤ → Type 0
IsWithin run x = (x_at run 0 ≤ℤ x) × (x ≤ℤ x_at run (length run - 1))
