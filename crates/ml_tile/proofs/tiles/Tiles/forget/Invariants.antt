use Rattle.std.proofs.Common.{◌≡◌, ◌-◌}
use Rattle.ml_tile.specs.Cache.{ShowsIn}
use Rattle.ml_tile.proofs.Turning.{Turned}
use Rattle.ml_tile.proofs.tiles.Tiles.forget.Given as goal

abbrev pub invariant-loop-tile : goal.invariant-loop-tile
invariant-loop-tile l =
    Turned (ShowsIn l.label l.span) l.fn.self.tiles l.self-inside.held.entries (l._tile-end - l._tile)
    × ((l.label ≡ l.fn.label) × ((l.span ≡ l.fn.span) × ((l.self-inside.hits ≡ l.fn.self.hits) × ((l.self-inside.skips ≡ l.fn.self.skips) × (l.self-inside.held.cap ≡ 256)))))
