use Rattle.std.proofs.Common.{List, ℕ, [], subst, refl}
use Rattle.ml_grid.specs.Entry.{Kept}
use Rattle.ml_grid.specs.Column.{IsAmongFrom}
use Rattle.ml_grid.specs.Found.{Finds, IsSeen, AreNumbers}
use Rattle.ml_grid.proofs.Finds.{finds_same, on_ok}
use Rattle.ml_grid.proofs.Answered.{numbers_of_finds, appends_all, appends_some, on_err}
use Rattle.ml_grid.proofs.Seen.{is_seen}
use Rattle.ml_grid.proofs.grid.Grid.in_window.Goals as goal

pub returns-clause-ok : goal.returns-clause-ok
returns-clause-ok g c =
    let entries = c.self.inside.tree.entries in
    let v = c.args.view.now in
    let f : Finds (IsAmongFrom c.window_cells.result v.scale) entries [] c.find_cells_from.new.found =
    subst (λ (a : List ℕ). Finds (IsAmongFrom c.window_cells.result v.scale) entries a c.find_cells_from.new.found) c.emptied-found.ensures c.in_ok-find_cells_from.ensures.ok in
    let h = finds_same (IsAmongFrom c.window_cells.result v.scale) (IsSeen v) entries [] c.find_cells_from.new.found f
    (is_seen v c.window_cells.result v.scale c.window_cells.ensures.band c.window_cells.ensures.meets refl) in
    let n : AreNumbers (IsSeen v) entries c.ascending.result.items =
    numbers_of_finds (IsSeen v) entries c.find_cells_from.new.found c.ascending.result.items h c.ascending.ensures.ascending c.ascending.ensures.same in
    let m : AreNumbers (IsSeen v) c.args.self.now.entries c.ascending.result.items = subst (λ (s : Kept). AreNumbers (IsSeen v) s.entries c.ascending.result.items) c.self.view_is n in
    on_ok c.append_counted.result _ _ (appends_all (IsSeen v) c.args.self.now.entries c.args.out.now c.append_counted.new.out
    c.deref.result.now c.ascending.result.items m c.deref.ensures.value) c.append_counted.ensures.ok

pub returns-clause-err : goal.returns-clause-err
returns-clause-err g c =
    let entries = c.self.inside.tree.entries in
    let v = c.args.view.now in
    let f : Finds (IsAmongFrom c.window_cells.result v.scale) entries [] c.find_cells_from.new.found =
    subst (λ (a : List ℕ). Finds (IsAmongFrom c.window_cells.result v.scale) entries a c.find_cells_from.new.found) c.emptied-found.ensures c.in_ok-find_cells_from.ensures.ok in
    let h = finds_same (IsAmongFrom c.window_cells.result v.scale) (IsSeen v) entries [] c.find_cells_from.new.found f
    (is_seen v c.window_cells.result v.scale c.window_cells.ensures.band c.window_cells.ensures.meets refl) in
    let n : AreNumbers (IsSeen v) entries c.ascending.result.items =
    numbers_of_finds (IsSeen v) entries c.find_cells_from.new.found c.ascending.result.items h c.ascending.ensures.ascending c.ascending.ensures.same in
    let m : AreNumbers (IsSeen v) c.args.self.now.entries c.ascending.result.items = subst (λ (s : Kept). AreNumbers (IsSeen v) s.entries c.ascending.result.items) c.self.view_is n in
    on_err c.append_counted.result _ _ (appends_some (IsSeen v) c.args.self.now.entries c.args.out.now c.append_counted.new.out
    c.deref.result.now c.ascending.result.items m c.deref.ensures.value) c.append_counted.ensures.err
