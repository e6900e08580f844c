use Rattle.std.proofs.Common.{sym, refl, ℕ, subst, ◌<◌, ◌≤◌}
use Rattle.std.specs.Prelude.{Contains}
use Rattle.ml_cone.specs.Hull.{hull_of}
use Rattle.ml_spans.specs.Spans.{entry_of}
use Rattle.ml_cone.specs.declared.cells.Cells.{Cells}
use Rattle.ml_grid.specs.Count.{cell_in, cell_count}
use Rattle.ml_grid.specs.Entry.{Adds}
use Rattle.ml_grid.specs.Placed.{IsEntryAmong, IsEntryAt}
use Rattle.ml_grid.proofs.Finds.{on_ok}
use Rattle.ml_grid.proofs.Sets.{adds_same, adds_none, at_is_placed, none_at}
use Rattle.ml_grid.specs.Marks.{end_by, marked, AreDigits}
use Rattle.ml_grid.proofs.Reach.{hull_digits, hull_low}
use Rattle.ml_grid.proofs.marks.mark_band.Goals as goal

pub mark_cells-requires-clause-band : goal.mark_cells-requires-clause-band
mark_cells-requires-clause-band c = subst (λ (s : Cells). s.band ≤ 27) (sym c.hull_within.ensures.hull) (hull_low c.args.label.now c.args.band c.requires.low)

pub mark_cells-requires-clause-digits : goal.mark_cells-requires-clause-digits
mark_cells-requires-clause-digits c =
    subst AreDigits (sym c.hull_within.ensures.hull) (hull_digits c.args.label.now (c.reach_is_least.ensures c.args.label.now) c.args.band)

pub mark_cells-requires-clause-new : goal.mark_cells-requires-clause-new
mark_cells-requires-clause-new c =
    let a = c.args.label.now in
    let k = c.args.band in
    let new : (i : ℕ) → i < cell_count (hull_of a k) →
    ¬ (Contains (marked c.args.ends.now c.args.marks.now.items) (entry_of (cell_in (hull_of a k) i) (end_by c.args.ends.now c.args.number) c.args.number)) =
    λ i low. c.requires.new (entry_of (cell_in (hull_of a k) i) (end_by c.args.ends.now c.args.number) c.args.number)
    ((at_is_placed c.hulls_are_few.ensures c.args.number a (end_by c.args.ends.now c.args.number) k c.requires.low (sym c.if-is_kept.ensures)
    (entry_of (cell_in (hull_of a k) i) (end_by c.args.ends.now c.args.number) c.args.number)).1 (i, low, refl)) in
    subst (λ (s : Cells). (i : ℕ) → i < cell_count s → ¬ (Contains (marked c.args.ends.now c.args.marks.now.items) (entry_of (cell_in s i) (end_by c.args.ends.now c.args.number) c.args.number)))
    (sym c.hull_within.ensures.hull) new

pub returns-then-is_kept-clause-entries : goal.returns-then-is_kept-clause-entries
returns-then-is_kept-clause-entries c =
    let a = c.args.label.now in
    let k = c.args.band in
    on_ok c.mark_cells.result _ _
    (λ added.
    let h : Adds (IsEntryAmong c.args.number (end_by c.args.ends.now c.args.number) (hull_of a k) (cell_count (hull_of a k)))
    (marked c.args.ends.now c.args.marks.now.items) (marked c.args.ends.now c.mark_cells.new.marks.items) =
    subst (λ (s : Cells). Adds (IsEntryAmong c.args.number (end_by c.args.ends.now c.args.number) s (cell_count s))
    (marked c.args.ends.now c.args.marks.now.items) (marked c.args.ends.now c.mark_cells.new.marks.items)) c.hull_within.ensures.hull added in
    adds_same (IsEntryAmong c.args.number (end_by c.args.ends.now c.args.number) (hull_of a k) (cell_count (hull_of a k))) (IsEntryAt c.args.number a
    (end_by c.args.ends.now c.args.number) k) (marked c.args.ends.now c.args.marks.now.items) (marked c.args.ends.now c.mark_cells.new.marks.items) h
    (at_is_placed c.hulls_are_few.ensures c.args.number a (end_by c.args.ends.now c.args.number) k c.requires.low (sym c.if-is_kept.ensures)))
    c.mark_cells.ensures.entries

pub returns-else-is_kept-clause-entries : goal.returns-else-is_kept-clause-entries
returns-else-is_kept-clause-entries c =
    adds_none (IsEntryAt c.args.number c.args.label.now (end_by c.args.ends.now c.args.number) c.args.band) (marked c.args.ends.now c.args.marks.now.items)
    (none_at c.args.number c.args.label.now (end_by c.args.ends.now c.args.number) c.args.band (sym c.if-is_kept.ensures))
