-- What becomes of the tiles that are held while requests are answered.
use Rattle.std.specs.Prelude.{◌≡◌, ◌⊎◌, ℕ, ◌<◌, ◌≤◌, List, [], ◌∷◌, length, take, Option, Some, None, Contains}
use Rattle.ml_watch.specs.declared.change.Change.{Change}
use Rattle.ml_cone.specs.declared.label.Label.{Label}
use Rattle.ml_cone.specs.declared.slot.Span.{Span}
use Rattle.ml_store.specs.declared.row.Row.{Row}
use Rattle.ml_repair.specs.Changes.{span_of}
use Rattle.ml_ratio.specs.Count.{one_more}
use Rattle.ml_tile.specs.Cache.{Cache, HeldTile, IsHeld, IsHit, ShowsIn, Loses, most_tiles, longest_body}
use Rattle.ml_tile.specs.declared.key.TileKey.{TileKey}

-- what an answer is for the tiles: nothing; this tile was asked for, and this is its body; the labels were those and are these; or all labels were made anew
pub data TileWork : Type 0 where
  Untouched : TileWork
  Asked : HeldTile → TileWork
  Changed : List Row → List Row → TileWork
  Remade : TileWork

-- a tile that is not held is kept as the first of those that may be held, where its body is not too long; if memory is wanting for that, it is skipped
abbrev pub IsKept : HeldTile → Cache → Cache → Type 0
IsKept tile old new =
    ((longest_body < length tile.1) × (new ≡ old))
    ⊎ ((length tile.1 ≤ longest_body) × ((new ≡ record old { tiles = take most_tiles (tile ∷ old.tiles) }) ⊎ (new ≡ record old { skips = one_more old.skips })))

-- a tile that is asked for is a hit where it is held, and is kept where it is not
abbrev pub IsAsked : HeldTile → Cache → Cache → Type 0
IsAsked tile old new = ((body : List ℕ) × IsHit tile.0 body old new) ⊎ ((¬ (IsHeld tile.0 old.tiles)) × IsKept tile old new)

-- just the tiles of which this holds go; the counts stay
pub record Drops (Goes : TileKey → Type 0) (old new : Cache) : Type 0 where
  pub tiles : Loses Goes old.tiles new.tiles
  pub hits : new.hits ≡ old.hits
  pub skips : new.skips ≡ old.skips

-- the tiles that show the label, active in the span, go, where both are given
abbrev pub IsForgotten : Option Label → Option Span → Cache → Cache → Type 0
IsForgotten (Some label) (Some span) old new = Drops (ShowsIn label span) old new
IsForgotten (Some label) None old new = new ≡ old
IsForgotten None (Some span) old new = new ≡ old
IsForgotten None None old new = new ≡ old

-- a label with the id is shown in the tile
abbrev pub ShowsId : List Row → List ℕ → TileKey → Type 0
ShowsId rows id key = (row : Row) × Contains rows row × (row.label.order.id ≡ id) × ShowsIn row.label (span_of row) key

-- the label of a change is shown in the tile, as it was or as it is
abbrev pub ShowsChange : List Row → List Row → Change → TileKey → Type 0
ShowsChange before after change key = ShowsId before change.id key ⊎ ShowsId after change.id key

-- a label of the changes is
abbrev pub ShowsChanges : List Row → List Row → List Change → TileKey → Type 0
ShowsChanges before after changes key = (change : Change) × Contains changes change × ShowsChange before after change key

-- what becomes of the tiles by an answer with these changes
abbrev pub IsDoneTo : TileWork → List Change → Cache → Cache → Type 0
IsDoneTo Untouched changes old new = new ≡ old
IsDoneTo (Asked tile) changes old new = IsAsked tile old new
IsDoneTo (Changed before after) changes old new = Drops (ShowsChanges before after changes) old new
IsDoneTo Remade changes old new = new ≡ record old { tiles = [] }
