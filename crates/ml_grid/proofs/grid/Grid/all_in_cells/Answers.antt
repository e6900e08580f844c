use Rattle.std.proofs.Common.{◌∙◌, List, ℕ, [], subst}
use Rattle.std.specs.Prelude.{Contains, ◌↔◌}
use Rattle.ml_grid.specs.Entry.{Kept}
use Rattle.ml_grid.specs.Found.{Finds, IsAmong, IsNumberOf}
use Rattle.ml_grid.proofs.Answered.{all_found}
use Rattle.ml_grid.proofs.grid.Grid.all_in_cells.Goals as goal

pub returns : goal.returns
returns c =
    let entries = c.self.inside.tree.entries in
    let cells = c.args.cells.now in
    let found = c.find_cells.new.found in
    let f : Finds (IsAmong cells) entries [] found =
    subst (λ (b : List ℕ). Finds (IsAmong cells) entries b found) (c.of_vec-found.ensures ∙ c.in_ok-with_capacity.ensures.items) c.in_ok-find_cells.ensures.ok in
    subst (λ (k : Kept). (n : ℕ) → Contains found n ↔ IsNumberOf (IsAmong cells) k.entries n) c.self.view_is (all_found (IsAmong cells) entries found f)
