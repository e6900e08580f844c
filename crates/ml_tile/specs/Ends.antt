-- What the tiles end as, once the body that was lent has been given back.
use Rattle.std.specs.Prelude.{◌≡◌, List, ℕ, Option, MatchOption, ⊤}
use Rattle.std.specs.Borrow.{Fml, Bor, MutBor, follows_so}
use mathlib.Core.Option.{none}
use Rattle.ml_tile.specs.Cache.{Cache, IsHeld, IsHit}
use Rattle.ml_tile.specs.contracts.tiles.Tiles.{the_row}
use Rattle.ml_tile.specs.declared.key.TileKey.{TileKey}

-- the tile was held with this body and is a hit; or it is not held, and nothing changes
abbrev pub IsFound : TileKey → Cache → Option (Bor (List ℕ)) → Cache → Type 0
IsFound key old answer new = MatchOption answer ((¬ (IsHeld key old.tiles)) × (new ≡ old)) (λ body. IsHit key body.now old new)

-- the tiles end so
abbrev pub EndsFound : TileKey → MutBor Cache → Option (Bor (List ℕ)) → Fml
EndsFound key tiles answer = follows_so the_row the_row tiles.ghost_name none (λ _ _. ⊤) (IsFound key tiles.now answer)
