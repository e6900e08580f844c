use Rattle.std.proofs.Common.{◌≡◌, arith, ℕ, ◌+◌, subst}
use Rattle.std.specs.Prelude.{Contains}
use Rattle.ml_spans.specs.Spans.{entry_of}
use Rattle.ml_grid.specs.Count.{cell_in, cell_count}
use Rattle.ml_grid.specs.Entry.{LosesEntries}
use Rattle.ml_grid.specs.Placed.{IsEntryAmong}
use Rattle.ml_grid.proofs.Sets.{drops_both, drops_none, placed_more, not_placed, none_placed}
use Rattle.ml_grid.proofs.keep.drop_cells.Goals as goal

pub take_out-requires : goal.take_out-requires
take_out-requires c =
    let s = c.args.cells.now in
    let n = c.loop-i.i in
    let old = c.requires.there n (omega (arith, c.cells_of-i-end.ensures.count)) in
    let there : Contains c.loop-i.tree.entries (entry_of (cell_in s n) c.args.until c.args.number) =
    (c.loop-i.invariant.entries (entry_of (cell_in s n) c.args.until c.args.number)).1 (old, not_placed c.args.number c.args.until s n) in
    record { there = rw (c.cell_at.ensures) there }

pub loop-i-preserved : goal.loop-i-preserved
loop-i-preserved c = record {
  entries = drops_both (IsEntryAmong c.args.number c.args.until c.args.cells.now c.loop-i.i)
      (λ e. e ≡ (entry_of c.cell_at.result c.args.until c.args.number)) (IsEntryAmong c.args.number c.args.until c.args.cells.now (c.loop-i.i + 1))
      c.args.tree.now.entries c.loop-i.tree.entries c.take_out.new.tree.entries c.loop-i.invariant.entries c.take_out.ensures.entries
      (placed_more c.args.number c.args.until c.args.cells.now c.loop-i.i c.cell_at.result c.cell_at.ensures);
  spare = let a = c.loop-i.invariant.spare in let b = c.take_out.ensures.spare in omega arith;
}

pub loop-i-init : goal.loop-i-init
loop-i-init c = record {
  entries = drops_none (IsEntryAmong c.args.number c.args.until c.args.cells.now 0) c.args.tree.now.entries (none_placed c.args.number c.args.until c.args.cells.now);
  spare = omega arith;
}

pub returns-clause-entries : goal.returns-clause-entries
returns-clause-entries c =
    let e : c.loop-i.i ≡ cell_count c.args.cells.now = omega (arith, c.cells_of-i-end.ensures.count) in
    subst (λ (n : ℕ). LosesEntries (IsEntryAmong c.args.number c.args.until c.args.cells.now n) c.args.tree.now.entries c.loop-i.tree.entries) e c.loop-i.invariant.entries
