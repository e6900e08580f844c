use Rattle.std.proofs.Common.{subst}
use Rattle.ml_grid.specs.Entry.{Kept}
use Rattle.ml_grid.specs.Found.{Finds, IsAmong, IsInHull}
use Rattle.ml_grid.proofs.Finds.{finds_same, on_ok}
use Rattle.ml_grid.proofs.Answered.{in_hull}
use Rattle.ml_grid.proofs.grid.Grid.in_hull.Goals as goal

pub returns : goal.returns
returns c =
    let entries = c.self.inside.tree.entries in
    on_ok c.find_cells.result _ _ (λ (f : Finds (IsAmong c.hull.result) entries c.args.out.now c.find_cells.new.found).
    subst (λ (s : Kept). Finds (IsInHull c.args.label.now c.args.band) s.entries c.args.out.now c.find_cells.new.found) c.self.view_is
    (finds_same (IsAmong c.hull.result) (IsInHull c.args.label.now c.args.band) entries c.args.out.now c.find_cells.new.found f
    (in_hull c.args.label.now c.args.band c.hull.result c.hull.ensures.hull))) c.find_cells.ensures.ok
