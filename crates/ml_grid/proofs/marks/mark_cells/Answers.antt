use Rattle.std.proofs.Common.{◌≡◌, arith, ℕ, ◌+◌, ◌<◌, ◌≤ℤ◌, inl, inr, subst}
use Rattle.std.specs.Prelude.{Contains}
use Rattle.ml_cone.specs.declared.cells.Cells.{Cells}
use Rattle.ml_spans.specs.Spans.{entry_of}
use Rattle.ml_grid.specs.Count.{cell_in, cell_count}
use Rattle.ml_grid.specs.declared.cell.Cell.{Cell}
use Rattle.ml_grid.specs.Entry.{Adds}
use Rattle.ml_grid.specs.Placed.{IsEntryAmong}
use Rattle.ml_grid.proofs.Places.{among_at}
use Rattle.ml_grid.proofs.Reach.{digit_between}
use Rattle.ml_grid.proofs.Sets.{adds_both, placed_more, not_placed}
use Rattle.ml_grid.specs.Marks.{end_by, marked, IsDigit, AreDigits}
use Rattle.ml_grid.proofs.marks.mark_cells.Goals as goal

-- the cell at a place has digits where all cells have
cell_digits : (s : Cells) → s.x0 ≤ℤ s.x1 → s.y0 ≤ℤ s.y1 → AreDigits s → (i : ℕ) → i < cell_count s → (cell : Cell) → cell ≡ cell_in s i → IsDigit cell.x × IsDigit cell.y
cell_digits s h k digits i low cell is =
    let among = among_at s h k i low in
    rw is (digit_between s.x0 s.x1 (cell_in s i).x digits.0 among.0 among.1 digits.1, digit_between s.y0 s.y1 (cell_in s i).y digits.2 among.2 among.3 digits.3)

pub mark_one-requires-clause-new : goal.mark_one-requires-clause-new
mark_one-requires-clause-new c h =
    let s = c.args.cells.now in
    let n = c.loop-i._i in
    let h' : Contains (marked c.args.ends.now c.loop-i.marks.items) (entry_of (cell_in s n) (end_by c.args.ends.now c.args.number) c.args.number) = rw (← c.loop-i.invariant.cell) h in
    elim ((c.loop-i.invariant.entries (entry_of (cell_in s n) (end_by c.args.ends.now c.args.number) c.args.number)).0 h') [
      | inl old ↦ c.requires.new n (omega (arith, c.cells_of-i-end.ensures.count)) old
      | inr placed ↦ not_placed c.args.number (end_by c.args.ends.now c.args.number) s n placed
    ]

pub mark_one-requires-clause-column : goal.mark_one-requires-clause-column
mark_one-requires-clause-column c =
    (cell_digits c.args.cells.now c.requires.few_columns.0 c.requires.few_rows.0 c.requires.digits c.loop-i._i (omega (arith, c.cells_of-i-end.ensures.count)) c.loop-i.cell c.loop-i.invariant.cell).0

pub mark_one-requires-clause-row : goal.mark_one-requires-clause-row
mark_one-requires-clause-row c =
    (cell_digits c.args.cells.now c.requires.few_columns.0 c.requires.few_rows.0 c.requires.digits c.loop-i._i (omega (arith, c.cells_of-i-end.ensures.count)) c.loop-i.cell c.loop-i.invariant.cell).1

pub cell_after-cell-requires-clause-column : goal.cell_after-cell-requires-clause-column
cell_after-cell-requires-clause-column c =
    (cell_digits c.args.cells.now c.requires.few_columns.0 c.requires.few_rows.0 c.requires.digits c.loop-i._i (omega (arith, c.cells_of-i-end.ensures.count)) c.loop-i.cell c.loop-i.invariant.cell).0

pub loop-i-preserved : goal.loop-i-preserved
loop-i-preserved c = record {
  cell = c.cell_after-cell.ensures c.loop-i._i c.loop-i.invariant.cell;
  apart = c.in_ok-mark_one.ensures.apart;
  entries = adds_both (IsEntryAmong c.args.number (end_by c.args.ends.now c.args.number) c.args.cells.now c.loop-i._i)
      (λ e. e ≡ (entry_of c.loop-i.cell (end_by c.args.ends.now c.args.number) c.args.number))
      (IsEntryAmong c.args.number (end_by c.args.ends.now c.args.number) c.args.cells.now (c.loop-i._i + 1))
      (marked c.args.ends.now c.args.marks.now.items) (marked c.args.ends.now c.loop-i.marks.items)
      (marked c.args.ends.now c.mark_one.new.marks.items) c.loop-i.invariant.entries c.in_ok-mark_one.ensures.entries
      (placed_more c.args.number (end_by c.args.ends.now c.args.number) c.args.cells.now c.loop-i._i c.loop-i.cell c.loop-i.invariant.cell);
}

pub returns-clause-entries : goal.returns-clause-entries
returns-clause-entries c =
    let e : c.loop-i._i ≡ cell_count c.args.cells.now = omega (arith, c.cells_of-i-end.ensures.count) in
    subst (λ (n : ℕ). Adds (IsEntryAmong c.args.number (end_by c.args.ends.now c.args.number) c.args.cells.now n)
    (marked c.args.ends.now c.args.marks.now.items) (marked c.args.ends.now c.loop-i.marks.items)) e c.loop-i.invariant.entries
