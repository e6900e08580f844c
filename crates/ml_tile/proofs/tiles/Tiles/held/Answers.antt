use Rattle.std.proofs.Common.{ap}
use Rattle.ml_tile.proofs.Held.{look}
use Rattle.ml_tile.proofs.tiles.Tiles.held.Goals as goal

pub returns : goal.returns
returns c = rw (c.contains.ensures, ap (λ t. t.tiles) c.self.view_is) (look c.args.key.now c.args.self.now.tiles)
