use Rattle.std.proofs.Common.{rules}
use Rattle.ml_tile.proofs.Views.{not_active, shown_if}
use Rattle.ml_tile.proofs.tiles.shows.Goals as goal

pub returns-then-active : goal.returns-then-active
returns-then-active c = shown_if c.args.label.now c.args.span.now c.args.key.now c.view-view.result c.meets.result c.view-view.ensures
    (c.active.ensures.0 c.if-active.true) c.meets.ensures.0 c.meets.ensures.1
