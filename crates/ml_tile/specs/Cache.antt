-- What contracts see of held tiles.
use Rattle.std.specs.Prelude.{ℕ, ◌+◌, ◌-◌, ◌^◌, ◌≡◌, ◌≢◌, ◌⊎◌, ◌≤◌, ◌<◌, min, List, [], ◌∷◌, ◌++◌, take, length, Option, MatchOption, Contains, AllPairs}
use Rattle.std.specs.Map.{keys_of}
use Rattle.ml_ratio.specs.Count.{one_more}
use Rattle.ml_ratio.specs.Fraction.{value_of}
use Rattle.ml_cone.specs.declared.label.Label.{Label}
use Rattle.ml_cone.specs.declared.slot.Span.{Span}
use Rattle.ml_cone.specs.declared.view.View.{View}
use Rattle.ml_cone.specs.Range.{ActiveBetween}
use Rattle.ml_cone.specs.Shown.{IsInView}
use Rattle.ml_tile.specs.Tile.{IsTileView}
use Rattle.ml_tile.specs.declared.key.TileKey.{TileKey}

-- how many tiles are held at most
abbrev pub most_tiles : ℕ
most_tiles = 256

-- how many bytes a body has at most that is held
abbrev pub longest_body : ℕ
longest_body = 65536

-- a tile with its body
abbrev pub HeldTile : Type 0
HeldTile = TileKey × List ℕ

-- the tiles that are held, most recent first; how often a tile that was asked for was held; and how often one was not kept because memory ran out
pub record Cache : Type 0 where
  pub tiles : List HeldTile
  pub hits : ℕ
  pub skips : ℕ

-- each tile is held once, and no more than may be
pub record AreFewTiles (tiles : List HeldTile) : Type 0 where
  pub once : AllPairs (λ a b. a ≢ b) (keys_of tiles)
  pub few : length tiles ≤ most_tiles

-- the tile is held
abbrev pub IsHeld : TileKey → List HeldTile → Type 0
IsHeld key tiles = (body : List ℕ) × Contains tiles (key, body)

-- the tile was held with this body, and has come to the front; the others stand behind it as they stood
pub record ComesFirst (key : TileKey) (body : List ℕ) (old new : List HeldTile) : Type 0 where
  pub front : List HeldTile
  pub back : List HeldTile
  pub stood : old ≡ front ++ (key, body) ∷ back
  pub first : new ≡ (key, body) ∷ (front ++ back)

-- a tile that is held is a hit
pub record IsHit (key : TileKey) (body : List ℕ) (old new : Cache) : Type 0 where
  pub tiles : ComesFirst key body old.tiles new.tiles
  pub hits : new.hits ≡ one_more old.hits
  pub skips : new.skips ≡ old.skips

-- a label that is active in the span is shown in the tile
abbrev pub ShowsIn : Label → Span → TileKey → Type 0
ShowsIn label span key =
    (view : View) × IsTileView key.z key.i key.j view × ActiveBetween (value_of span.min) (value_of span.until) (value_of view.scale) × IsInView label view

-- of the tiles just those stay, in order, of which this does not hold
abbrev pub Loses : (TileKey → Type 0) → List HeldTile → List HeldTile → Type 0
Loses Goes [] left = left ≡ []
Loses Goes (tile ∷ tiles) left =
    (Goes tile.0 × Loses Goes tiles left) ⊎ ((rest : List HeldTile) × (¬ (Goes tile.0)) × (left ≡ tile ∷ rest) × Loses Goes tiles rest)

-- the last tile has gone where this holds of it, and else it has come to the front; no tile, no change
abbrev pub Turns : (TileKey → Type 0) → List HeldTile → List HeldTile → Type 0
Turns Goes old new =
    ((old ≡ []) × (new ≡ []))
    ⊎ ((front : List HeldTile) × (last : HeldTile) × (old ≡ front ++ last ∷ [])
    × ((Goes last.0 × (new ≡ front)) ⊎ ((¬ (Goes last.0)) × (new ≡ last ∷ front))))
