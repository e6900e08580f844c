use Rattle.std.proofs.Common.{List, ℕ, [], subst}
use Rattle.ml_grid.specs.Entry.{Kept}
use Rattle.ml_grid.specs.Found.{Finds, IsAmong, IsInHull, AreNumbers}
use Rattle.ml_grid.proofs.Finds.{finds_same, on_ok}
use Rattle.ml_grid.proofs.Answered.{numbers_of_finds, appends_all, appends_some, on_err, in_hull}
use Rattle.ml_grid.proofs.grid.Grid.near.Goals as goal

pub returns-clause-ok : goal.returns-clause-ok
returns-clause-ok c =
    let entries = c.self.inside.tree.entries in
    let f : Finds (IsAmong c.hull.result) entries [] c.find_cells.new.found =
    subst (λ (a : List ℕ). Finds (IsAmong c.hull.result) entries a c.find_cells.new.found) c.emptied-found.ensures c.in_ok-find_cells.ensures.ok in
    let g = finds_same (IsAmong c.hull.result) (IsInHull c.args.label.now c.args.band) entries [] c.find_cells.new.found f (in_hull c.args.label.now c.args.band c.hull.result c.hull.ensures.hull) in
    let n : AreNumbers (IsInHull c.args.label.now c.args.band) entries c.ascending.result.items =
    numbers_of_finds (IsInHull c.args.label.now c.args.band) entries c.find_cells.new.found c.ascending.result.items g c.ascending.ensures.ascending c.ascending.ensures.same in
    let m : AreNumbers (IsInHull c.args.label.now c.args.band) c.args.self.now.entries c.ascending.result.items =
    subst (λ (s : Kept). AreNumbers (IsInHull c.args.label.now c.args.band) s.entries c.ascending.result.items) c.self.view_is n in
    on_ok c.append.result _ _ (appends_all (IsInHull c.args.label.now c.args.band) c.args.self.now.entries c.args.out.now
    c.append.new.out c.deref.result.now c.ascending.result.items m c.deref.ensures.value) c.append.ensures.ok

pub returns-clause-err : goal.returns-clause-err
returns-clause-err c =
    let entries = c.self.inside.tree.entries in
    let f : Finds (IsAmong c.hull.result) entries [] c.find_cells.new.found =
    subst (λ (a : List ℕ). Finds (IsAmong c.hull.result) entries a c.find_cells.new.found) c.emptied-found.ensures c.in_ok-find_cells.ensures.ok in
    let g = finds_same (IsAmong c.hull.result) (IsInHull c.args.label.now c.args.band) entries [] c.find_cells.new.found f (in_hull c.args.label.now c.args.band c.hull.result c.hull.ensures.hull) in
    let n : AreNumbers (IsInHull c.args.label.now c.args.band) entries c.ascending.result.items =
    numbers_of_finds (IsInHull c.args.label.now c.args.band) entries c.find_cells.new.found c.ascending.result.items g c.ascending.ensures.ascending c.ascending.ensures.same in
    let m : AreNumbers (IsInHull c.args.label.now c.args.band) c.args.self.now.entries c.ascending.result.items =
    subst (λ (s : Kept). AreNumbers (IsInHull c.args.label.now c.args.band) s.entries c.ascending.result.items) c.self.view_is n in
    on_err c.append.result _ _ (appends_some (IsInHull c.args.label.now c.args.band) c.args.self.now.entries c.args.out.now
    c.append.new.out c.deref.result.now c.ascending.result.items m c.deref.ensures.value) c.append.ensures.err
