-- Where a label stands, or is to stand, in priority order.
use Rattle.std.specs.Prelude.{ℕ, ◌≡◌, ◌<◌, ◌≤◌, List, length, slice_index_or}
use Rattle.std.specs.declared.cmp.Ordering.TheVariants.{Less}
use Rattle.ml_cone.specs.Order.{order_cmp}
use Rattle.ml_cone.specs.declared.label.Label.{Label}
use Rattle.ml_cone.specs.declared.order.Order.{Order}

-- just the labels that are before the order stand before the place
pub record IsPlaceFor (labels : List Label) (order : Order) (at : ℕ) : Type 0 where
  pub within : at ≤ length labels
  pub before : (k : ℕ) (d : Label) → k < at → order_cmp (slice_index_or labels k d).order order ≡ Less
  pub after : (k : ℕ) (d : Label) → at ≤ k → k < length labels → ¬ (order_cmp (slice_index_or labels k d).order order ≡ Less)
