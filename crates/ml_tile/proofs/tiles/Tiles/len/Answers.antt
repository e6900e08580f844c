use Rattle.std.proofs.Common.{ap}
use Rattle.ml_tile.proofs.Held.{few_tiles}
use Rattle.ml_tile.proofs.tiles.Tiles.len.Goals as goal

pub returns-clause-count : goal.returns-clause-count
returns-clause-count c = rw (← ap (λ t. t.tiles) c.self.view_is) c.len.ensures.len

pub returns-clause-holds : goal.returns-clause-holds
returns-clause-holds c = rw (← ap (λ t. t.tiles) c.self.view_is) (few_tiles c.self.inside.held c.len.ensures.valid c.self.invariant)
