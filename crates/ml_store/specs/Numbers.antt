-- The numbers of labels in use, in order.
use Rattle.std.specs.Prelude.{ℕ, ◌≡◌, ◌<◌, ◌≤◌, List, length, slice_index}
use Rattle.ml_ratio.specs.Limits.{most_labels}
use Rattle.ml_store.specs.Tiers.{AreAll}

-- of all numbers in their order the first ones are in use
pub record AreInUse (order : List ℕ) (used : ℕ) : Type 0 where
  pub few : used ≤ most_labels
  pub all : AreAll order

-- the number stands at the place
abbrev pub IsAt : List ℕ → ℕ → ℕ → Type 0
IsAt numbers number at = (at < length numbers) × (slice_index numbers at ≡ number)
