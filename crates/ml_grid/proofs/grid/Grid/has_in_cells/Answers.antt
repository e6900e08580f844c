use Rattle.std.specs.Prelude.{◌↔◌, IsTrue}
use Rattle.std.proofs.Common.{subst}
use Rattle.ml_grid.specs.Entry.{Kept}
use Rattle.ml_grid.specs.Column.{IsAmongFrom}
use Rattle.ml_grid.specs.Found.{HasEntry}
use Rattle.ml_grid.proofs.grid.Grid.has_in_cells.Goals as goal

pub returns : goal.returns
returns c = subst (λ (k : Kept). IsTrue c.has_in_cells.result ↔ HasEntry (IsAmongFrom c.args.cells.now c.args.scale.now) k.entries) c.self.view_is c.has_in_cells.ensures
