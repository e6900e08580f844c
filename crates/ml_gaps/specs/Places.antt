-- Places of labels that may block one.
use Rattle.std.specs.Prelude.{◌≡◌, ◌⊎◌, ℕ, ℤ, ◌<◌, All, Contains, List, length, slice_index_or}
use Rattle.ml_ratio.specs.Fraction.{Fraction}
use Rattle.ml_cone.specs.declared.label.Label.{Label}
use Rattle.ml_gaps.specs.Blocked.{IsBlocked}
use Rattle.ml_gaps.specs.Strip.{IsPast}
use Rattle.ml_gaps.specs.declared.gap.Gap.{Gap}
use Rattle.ml_gaps.specs.declared.strip.Strip.{Strip}

-- places of some of the strips were appended, and a label with its anchor at the coordinate, which reaches so many pixels from it, is past the others
pub record Gathers (at : ℤ) (reach : ℕ) (Has : Strip → Type 0) (old new : List ℕ) : Type 0 where
  pub kept : (j : ℕ) → Contains old j → Contains new j
  pub found : (strip : Strip) → Has strip → Contains new strip.place ⊎ IsPast at reach strip
  pub only : (j : ℕ) → Contains new j → Contains old j ⊎ ((strip : Strip) × Has strip × (strip.place ≡ j))

-- the places are those of labels that have a gap, with all of these that block the label
pub record AreEnough (a : Label) (labels : List Label) (gaps : List Gap) (places : List ℕ) : Type 0 where
  pub within : All (λ j. j < length gaps) places
  pub whole : (j : ℕ) (b : Label) (g : Gap) (s : Fraction) → j < length gaps → IsBlocked a (slice_index_or labels j b) (slice_index_or gaps j g) s → Contains places j
