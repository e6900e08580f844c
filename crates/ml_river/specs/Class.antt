-- How the text of a river is set.
use Rattle.std.specs.Prelude.{ℕ, ◌^◌, ◌<◌, ◌≤◌}

-- units of a font for each em: 1 to 65,535
abbrev pub IsUnits : ℕ → Type 0
IsUnits n = (1 ≤ n) × (n < 2 ^ 16)

-- the size of a text in pixels: 1 to 256
abbrev pub IsSize : ℕ → Type 0
IsSize n = (1 ≤ n) × (n ≤ 256)

-- the whole scale at which a chain is fitted, in world units a pixel: above 0 and below 2^28
abbrev pub IsReference : ℕ → Type 0
IsReference n = (1 ≤ n) × (n < 2 ^ 28)
