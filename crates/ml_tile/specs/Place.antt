use Rattle.std.specs.Prelude.{ℕ, ℤ, ◌*◌, ◌^◌, ◌≤◌, pos, negsuc, ◌+ℤ◌, ◌*ℤ◌, ◌≤ℤ◌}
use Rattle.ml_ratio.specs.World.{IsInWorld}

-- the middle of column i, or row i, of the tiles of depth z, in world units: a tile's side is 1024 * 2^z
abbrev pub middle : ℕ → ℤ → ℤ
middle z i = ((pos 2 *ℤ i) +ℤ pos 1) *ℤ pos (512 * 2 ^ z)

-- there is a tile of depth z in column i and row j: at most 21 deep, with its middle in the world
pub record IsTile (z : ℕ) (i j : ℤ) : Type 0 where
  pub deep : z ≤ 21
  pub world_x : IsInWorld (middle z i)
  pub world_y : IsInWorld (middle z j)

-- no further column, or row, has its middle in the world
abbrev pub IsNear : ℤ → Type 0
IsNear i = (negsuc 1999999 ≤ℤ i) × (i ≤ℤ pos 2000000)
