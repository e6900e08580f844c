-- Strips of the world about labels, beyond which these block no other.
use Rattle.std.specs.Prelude.{ℕ, ℤ, ◌*◌, ◌<◌, ◌≤◌, ◌-ℤ◌, List, length, slice_index_or, unsigned_abs}
use Rattle.ml_ratio.specs.Fraction.{Fraction, value_of, IsLess}
use Rattle.ml_cone.specs.Overlap.{Overlap}
use Rattle.ml_cone.specs.declared.label.Label.{Label}
use Rattle.ml_conflict.specs.Reach.{anchor_on, Reaches}
use Rattle.ml_conflict.specs.declared.axis.Axis.{Axis}
use Rattle.ml_gaps.specs.declared.gap.Gap.{Gap}
use Rattle.ml_gaps.specs.declared.strip.Strip.{Strip}

-- a label with its anchor at the coordinate, which reaches so many pixels from it, is past the strip: as far away as both cover at its last scale
abbrev pub IsPast : ℤ → ℕ → Strip → Type 0
IsPast at reach strip = (r : ℕ) × (reach ≤ r) × (strip.reach ≤ r) × (2 * r * strip.last ≤ unsigned_abs (at -ℤ strip.at))

-- labels that are past the strip do not overlap `b` below the fraction
abbrev pub IsStripAbout : Axis → Label → Fraction → Strip → Type 0
IsStripAbout axis b until strip =
    (a : Label) (reach : ℕ) → Reaches axis a reach → IsPast (anchor_on axis a) reach strip → (s : Fraction) → IsLess s until → ¬ (Overlap a b s)

-- the strip is about a label that has a gap
pub record IsStripIn (axis : Axis) (labels : List Label) (gaps : List Gap) (strip : Strip) : Type 0 where
  pub within : strip.place < length gaps
  pub about : (b : Label) (g : Gap) → IsStripAbout axis (slice_index_or labels strip.place b) (value_of (slice_index_or gaps strip.place g).until) strip
