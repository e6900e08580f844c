use Rattle.std.proofs.Common.{◌∙◌, List, ℕ, [], subst}
use Rattle.std.specs.Prelude.{Contains, ◌↔◌}
use Rattle.ml_grid.specs.Entry.{Kept}
use Rattle.ml_grid.specs.Column.{IsAmongFrom}
use Rattle.ml_grid.specs.Found.{Finds, IsNumberOf}
use Rattle.ml_grid.proofs.Answered.{all_found}
use Rattle.ml_grid.proofs.grid.Grid.in_cells.Goals as goal

pub returns : goal.returns
returns c =
    let entries = c.self.inside.tree.entries in
    let cells = c.args.cells.now in
    let s = c.args.scale.now in
    let f : Finds (IsAmongFrom cells s) entries [] c.find_cells_from.new.found = subst (λ (b : List ℕ). Finds (IsAmongFrom cells s) entries b c.find_cells_from.new.found)
    (c.of_vec-found.ensures ∙ c.in_ok-with_capacity.ensures.items) c.in_ok-find_cells_from.ensures.ok in
    subst (λ (k : Kept). (n : ℕ) → Contains c.find_cells_from.new.found n ↔ IsNumberOf (IsAmongFrom cells s) k.entries n) c.self.view_is
    (all_found (IsAmongFrom cells s) entries c.find_cells_from.new.found f)
