use Rattle.std.specs.Prelude.{ℕ, ℤ, ◌≡◌, ◌^◌, Option, MatchOption}
use Rattle.ml_cone.specs.declared.view.View.{View}
use Rattle.ml_tile.specs.Place.{middle, IsTile}
use Rattle.ml_tile.specs.declared.key.TileKey.{TileKey}

-- the key has these numbers
pub record HasNumbers (z : ℕ) (i j : ℤ) (key : TileKey) : Type 0 where
  pub z_is : key.z ≡ z
  pub i_is : key.i ≡ i
  pub j_is : key.j ≡ j

-- the answer is the key of the tile, or none where there is no such tile
abbrev pub IsKeyOf : ℕ → ℤ → ℤ → Option TileKey → Type 0
IsKeyOf z i j answer = MatchOption answer (¬ (IsTile z i j)) (λ key. IsTile z i j × HasNumbers z i j key)

-- the view is that of the tile of depth z in column i and row j: 1024 by 1024 pixels about its middle, at the scale 2^z
pub record IsTileView (z : ℕ) (i j : ℤ) (view : View) : Type 0 where
  pub cx_is : view.cx ≡ middle z i
  pub cy_is : view.cy ≡ middle z j
  pub w_is : view.w ≡ 1024
  pub h_is : view.h ≡ 1024
  pub num_is : view.scale.num ≡ 2 ^ z
  pub den_is : view.scale.den ≡ 1
