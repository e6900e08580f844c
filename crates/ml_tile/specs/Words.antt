-- Tiles from words.
use Rattle.std.specs.Prelude.{◌≡◌, ℕ, ℤ, ◌≤◌, List, Some, pos}
use Prim.Native.Nat.{zero, suc}
use Rattle.ml_ratio.specs.Number.{whole_number}
use Rattle.ml_ratio.specs.World.{IsInWorld}
use Rattle.ml_tile.specs.Place.{middle}
use Rattle.ml_tile.specs.declared.key.TileKey.{TileKey}

-- the word is the whole number z, which is the depth of some tiles
abbrev pub IsDepthWord : List ℕ → ℕ → Type 0
IsDepthWord word z = (whole_number word ≡ Some (pos z)) × (z ≤ 21)

-- the word is the whole number i, and column i, or row i, of the tiles of depth z has its middle in the world
abbrev pub IsColumnWord : ℕ → List ℕ → ℤ → Type 0
IsColumnWord z word i = (whole_number word ≡ Some i) × IsInWorld (middle z i)

-- three words write the tile: its depth, its column and its row
pub record WritesTile (z i j : List ℕ) (key : TileKey) : Type 0 where
  pub z_is : IsDepthWord z key.z
  pub i_is : IsColumnWord key.z i key.i
  pub j_is : IsColumnWord key.z j key.j

-- the word is some column, or row, of the tiles of depth z
abbrev pub SomeColumn : ℕ → List ℕ → Type 0
SomeColumn z word = (i : ℤ) × IsColumnWord z word i

-- of three words for a tile, the one at this place is the first that is not what it should be
abbrev pub IsFirstBadWord : List ℕ → List ℕ → List ℕ → ℕ → Type 0
IsFirstBadWord z i j zero = (depth : ℕ) → ¬ (IsDepthWord z depth)
IsFirstBadWord z i j (suc zero) = (depth : ℕ) × IsDepthWord z depth × ¬ (SomeColumn depth i)
IsFirstBadWord z i j (suc (suc zero)) = (depth : ℕ) × IsDepthWord z depth × SomeColumn depth i × ¬ (SomeColumn depth j)
IsFirstBadWord z i j (suc (suc (suc n))) = ⊥
