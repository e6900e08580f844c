use Rattle.std.proofs.Common.{◌≡◌, arith, ℕ, ◌+◌, inl, inr, subst}
use Rattle.std.specs.Prelude.{Contains}
use Rattle.ml_spans.specs.Spans.{entry_of}
use Rattle.ml_grid.specs.Count.{cell_in, cell_count}
use Rattle.ml_grid.specs.Entry.{Adds}
use Rattle.ml_grid.specs.Placed.{IsEntryAmong}
use Rattle.ml_grid.proofs.Sets.{adds_both, placed_more, not_placed}
use Rattle.ml_grid.proofs.keep.add_cells.Goals as goal

pub put_in-requires-clause-new : goal.put_in-requires-clause-new
put_in-requires-clause-new c h =
    let s = c.args.cells.now in
    let n = c.loop-i.i in
    let h' : Contains c.loop-i.tree.entries (entry_of (cell_in s n) c.args.until c.args.number) = rw (← c.cell_at.ensures) h in
    elim ((c.loop-i.invariant.entries (entry_of (cell_in s n) c.args.until c.args.number)).0 h') [
      | inl old ↦ c.requires.new n (omega (arith, c.cells_of-i-end.ensures.count)) old
      | inr placed ↦ not_placed c.args.number c.args.until s n placed
    ]

pub loop-i-preserved : goal.loop-i-preserved
loop-i-preserved c = record {
  entries = adds_both (IsEntryAmong c.args.number c.args.until c.args.cells.now c.loop-i.i)
      (λ e. e ≡ (entry_of c.cell_at.result c.args.until c.args.number)) (IsEntryAmong c.args.number c.args.until c.args.cells.now (c.loop-i.i + 1))
      c.args.tree.now.entries c.loop-i.tree.entries c.put_in.new.tree.entries c.loop-i.invariant.entries c.put_in.ensures.entries
      (placed_more c.args.number c.args.until c.args.cells.now c.loop-i.i c.cell_at.result c.cell_at.ensures);
  spare = let a = c.loop-i.invariant.spare in let b = c.put_in.ensures.spare in omega arith;
}

pub returns-clause-entries : goal.returns-clause-entries
returns-clause-entries c =
    let e : c.loop-i.i ≡ cell_count c.args.cells.now = omega (arith, c.cells_of-i-end.ensures.count) in
    subst (λ (n : ℕ). Adds (IsEntryAmong c.args.number c.args.until c.args.cells.now n) c.args.tree.now.entries c.loop-i.tree.entries) e c.loop-i.invariant.entries
