-- The laws of ends, limits and blockers that the judge stands on.
use Rattle.std.specs.Prelude.{ℕ, ◌<◌, List, slice_index_or}
use Rattle.ml_ratio.specs.Fraction.{Fraction, value_of, IsLess, IsAtMost, IsSame}
use Rattle.ml_cone.specs.Choice.{Choice, IsEnd, Allows, IsLimit, Blocks}
use Rattle.ml_cone.specs.declared.label.Label.{Label}
use Rattle.ml_conflict.specs.Begin.{SetsNoneUpTo}

-- what is known of ends, limits and blockers
pub record Known : Type 0 where
  pub smaller : (low high : Label) (u v e f : Fraction) → IsAtMost v u → IsAtMost e f → Allows low high u f → Allows low high v e
  pub same : (low high : Label) (u v f g : Fraction) → IsSame u v → IsSame f g → IsLimit low high u f → IsLimit low high v g
  pub allowed : (low high : Label) (u bound : Fraction) → IsAtMost bound (value_of low.max) → SetsNoneUpTo low high u bound → Allows low high u bound
  pub limits : (labels : List Label) (choice : Choice) (j i : ℕ) (d : Label) → IsEnd (slice_index_or labels i d) (choice i) →
      Allows (slice_index_or labels i d) (slice_index_or labels j d) (choice j) (choice i) →
      Blocks labels choice j i → IsLimit (slice_index_or labels i d) (slice_index_or labels j d) (choice j) (choice i)
  pub blocks : (labels : List Label) (choice : Choice) (j i : ℕ) → j < i → ((d : Label) → IsLess (choice i) (value_of (slice_index_or labels i d).max)) →
      ((d : Label) → IsLimit (slice_index_or labels i d) (slice_index_or labels j d) (choice j) (choice i)) → Blocks labels choice j i
