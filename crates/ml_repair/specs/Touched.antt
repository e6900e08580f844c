-- Which labels an edit touches. The edited label stands in the list, at the place `at`; where it is not there, a choice passes over that place.
use Rattle.std.specs.Prelude.{ℕ, ◌≡◌, ◌≢◌, ◌+◌, ◌<◌, ◌⊎◌, Bool, true, false, not, List, length, slice_index_or, remove, nat_lt, if◌then◌else◌}
use Rattle.ml_ratio.specs.Fraction.{IsSame}
use Rattle.ml_cone.specs.Choice.{Choice, IsLongest}
use Rattle.ml_cone.specs.Rivals.{AreRivals}
use Rattle.ml_cone.specs.declared.label.Label.{Label}
use Rattle.ml_repair.specs.Size.{IsSize}

-- the label at j is before that at i, and its rival
abbrev pub IsRivalBefore : List Label → ℕ → ℕ → Type 0
IsRivalBefore labels j i = (j < i) × ((d : Label) → AreRivals (slice_index_or labels i d) (slice_index_or labels j d))

-- the label at i has a rival before it that is the edited label, or that has another end after the edit than before it
abbrev pub IsHit : List Label → ℕ → Choice → Choice → ℕ → Type 0
IsHit labels at before after i = (j : ℕ) × IsRivalBefore labels j i × ((j ≡ at) ⊎ (¬ (IsSame (before j) (after j))))

-- the label at i is touched: it is the edited label, where that comes, or it is another one that is hit
abbrev pub IsTouched : List Label → ℕ → Bool → Choice → Choice → ℕ → Type 0
IsTouched labels at comes before after i =
    (i < length labels) × (((i ≡ at) × (comes ≡ true)) ⊎ ((i ≢ at) × IsHit labels at before after i))

-- the choice without the place `at`
abbrev pub left_out : ℕ → Choice → Choice
left_out at c k = if nat_lt k at then c k else c (k + 1)

-- the choice is the longest of the labels, that at `at` among them only if it is there
abbrev pub IsLongestIf : Bool → List Label → ℕ → Choice → Type 0
IsLongestIf true labels at c = IsLongest labels c
IsLongestIf false labels at c = IsLongest (remove labels at) (left_out at c)

-- n labels are touched as the label at `at` comes, or else goes
pub record AreTouched (labels : List Label) (at : ℕ) (comes : Bool) (n : ℕ) : Type 0 where
  pub before : Choice
  pub after : Choice
  pub longest_before : IsLongestIf (not comes) labels at before
  pub longest_after : IsLongestIf comes labels at after
  pub size : IsSize (IsTouched labels at comes before after) n
