use Rattle.std.proofs.Common.{ap, sym, refl, arith, ℕ, subst, ◌<◌}
use Rattle.std.specs.Prelude.{Contains}
use Rattle.ml_cone.specs.Hull.{hull_of}
use Rattle.ml_spans.specs.Spans.{entry_of}
use Rattle.ml_cone.specs.declared.cells.Cells.{Cells}
use Rattle.ml_grid.specs.Count.{cell_in, cell_count}
use Rattle.ml_grid.specs.Entry.{LosesEntries}
use Rattle.ml_grid.specs.Placed.{IsEntryAmong, IsEntryAt}
use Rattle.ml_grid.proofs.Sums.{count_met, count_unmet}
use Rattle.ml_grid.proofs.Sets.{drops_same, drops_none, at_is_placed, none_at}
use Rattle.ml_grid.proofs.keep.drop_band.Goals as goal

pub drop_cells-requires-clause-there : goal.drop_cells-requires-clause-there
drop_cells-requires-clause-there c =
    let a = c.args.label.now in
    let k = c.args.band in
    let there : (i : ℕ) → i < cell_count (hull_of a k) → Contains c.args.tree.now.entries (entry_of (cell_in (hull_of a k) i) c.args.until c.args.number) =
    λ i low. c.requires.there (entry_of (cell_in (hull_of a k) i) c.args.until c.args.number)
    ((at_is_placed c.hulls_are_few.ensures c.args.number a c.args.until k c.requires.low (sym c.if-is_kept.ensures)
    (entry_of (cell_in (hull_of a k) i) c.args.until c.args.number)).1 (i, low, refl)) in
    subst (λ (s : Cells). (i : ℕ) → i < cell_count s → Contains c.args.tree.now.entries (entry_of (cell_in s i) c.args.until c.args.number)) (sym c.hull_within.ensures.hull) there

pub returns-then-is_kept-clause-entries : goal.returns-then-is_kept-clause-entries
returns-then-is_kept-clause-entries c =
    let a = c.args.label.now in
    let k = c.args.band in
    let h : LosesEntries (IsEntryAmong c.args.number c.args.until (hull_of a k) (cell_count (hull_of a k))) c.args.tree.now.entries c.drop_cells.new.tree.entries =
    subst (λ (s : Cells). LosesEntries (IsEntryAmong c.args.number c.args.until s (cell_count s)) c.args.tree.now.entries c.drop_cells.new.tree.entries)
    c.hull_within.ensures.hull c.drop_cells.ensures.entries in
    drops_same (IsEntryAmong c.args.number c.args.until (hull_of a k) (cell_count (hull_of a k))) (IsEntryAt c.args.number a c.args.until k) c.args.tree.now.entries c.drop_cells.new.tree.entries h
    (at_is_placed c.hulls_are_few.ensures c.args.number a c.args.until k c.requires.low (sym c.if-is_kept.ensures))

pub returns-then-is_kept-clause-spare : goal.returns-then-is_kept-clause-spare
returns-then-is_kept-clause-spare c =
    let n = count_met c.args.label.now c.args.band (sym c.if-is_kept.ensures) in
    let m = ap cell_count c.hull_within.ensures.hull in
    let r = c.drop_cells.ensures.spare in omega arith

pub returns-else-is_kept-clause-entries : goal.returns-else-is_kept-clause-entries
returns-else-is_kept-clause-entries c =
    drops_none (IsEntryAt c.args.number c.args.label.now c.args.until c.args.band) c.args.tree.now.entries (none_at c.args.number c.args.label.now c.args.until c.args.band (sym c.if-is_kept.ensures))

pub returns-else-is_kept-clause-spare : goal.returns-else-is_kept-clause-spare
returns-else-is_kept-clause-spare c = let n = count_unmet c.args.label.now c.args.band (sym c.if-is_kept.ensures) in omega arith
