-- Which rivals are enough to know a label's slot among more.
use Rattle.std.specs.Prelude.{ℕ, ◌<◌, List, Contains, All, ◌⊎◌}
use Rattle.std.specs.List.Sorted.{IsNonDecreasing}
use Rattle.ml_ratio.specs.Fraction.{Fraction, value_of, IsAtMost}
use Rattle.ml_cone.specs.Choice.{IsEnd}
use Rattle.ml_cone.specs.Slots.{Rival, RivalAllows}
use Rattle.ml_cone.specs.declared.label.Label.{Label}
use Rattle.ml_conflict.specs.Begin.{SetsNoneUpTo}

-- of the first n rivals those at the places, in order, leave `low` no end above the bound, and each other one sets it no limit up to the bound
pub record AreEnough (low : Label) (rivals : ℕ → Rival) (n : ℕ) (bound : Fraction) (places : List ℕ) : Type 0 where
  pub ascending : IsNonDecreasing places
  pub within : All (λ j. j < n) places
  pub low_bound : IsAtMost bound (value_of low.max)
  pub leave : (e : Fraction) → IsEnd low e → ((j : ℕ) → Contains places j → RivalAllows low e (rivals j)) → IsAtMost e bound
  pub others : (j : ℕ) → j < n → Contains places j ⊎ SetsNoneUpTo low (rivals j).label (value_of (rivals j).until) bound
