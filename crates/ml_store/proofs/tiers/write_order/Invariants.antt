use Rattle.std.proofs.Common.{ℕ, ◌≡◌, ◌<◌, ◌≤◌, length, slice_index}
use Rattle.ml_store.proofs.tiers.write_order.Given as goal

abbrev pub invariant-loop-cell : goal.invariant-loop-cell
invariant-loop-cell l = record {
  all_cells : length l.cells.items ≡ 32768;
  all_numbers : length l.cell_of.items ≡ 32768;
  written : (k : ℕ) → k < l.cell → slice_index l.cells.items k ≡ slice_index l.order k;
  kept : (k : ℕ) → l.cell ≤ k → k < 32768 → slice_index l.cells.items k ≡ k;
  placed : (k : ℕ) → k < l.cell → slice_index l.cell_of.items (slice_index l.order k) ≡ k;
  left : (n : ℕ) → length l.order ≤ n → n < 32768 → slice_index l.cell_of.items n ≡ n;
}
