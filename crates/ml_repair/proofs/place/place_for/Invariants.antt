use Rattle.std.proofs.Common.{ℕ, ◌≡◌, ◌-◌, ◌<◌, ◌≤◌, length, slice_index_or}
use Rattle.std.specs.declared.cmp.Ordering.TheVariants.{Less}
use Rattle.ml_cone.specs.Order.{order_cmp}
use Rattle.ml_cone.specs.declared.label.Label.{Label}
use Rattle.ml_store.specs.Rows.{labels_in}
use Rattle.ml_repair.proofs.place.place_for.Given as goal

abbrev pub invariant-loop-low : goal.invariant-loop-low
invariant-loop-low l = record {
  in_order : l.low ≤ l.high;
  bound : l.high ≤ length l.roster;
  before : (k : ℕ) (d : Label) → k < l.low → order_cmp (slice_index_or (labels_in l.roster) k d).order l.order ≡ Less;
  after : (k : ℕ) (d : Label) → l.high ≤ k → k < length l.roster → ¬ (order_cmp (slice_index_or (labels_in l.roster) k d).order l.order ≡ Less);
}

abbrev pub decreases-loop-low : goal.decreases-loop-low
decreases-loop-low l = l.high - l.low
