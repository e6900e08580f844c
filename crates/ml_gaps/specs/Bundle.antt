-- Bundles of strips.
use Rattle.std.specs.Prelude.{◌≡◌, ◌⊎◌, ℕ, ◌<◌, ◌≤◌, ◌≤ℤ◌, All, Any, List, length, slice_index_or}
use Rattle.ml_ratio.specs.Fraction.{Fraction}
use Rattle.ml_cone.specs.declared.label.Label.{Label}
use Rattle.ml_conflict.specs.declared.axis.Axis.{Axis}
use Rattle.ml_gaps.specs.Gap.{IsActive}
use Rattle.ml_gaps.specs.Strip.{IsStripIn}
use Rattle.ml_gaps.specs.declared.bundle.Bundle.{Bundle}
use Rattle.ml_gaps.specs.declared.gap.Gap.{Gap}
use Rattle.ml_gaps.specs.declared.strip.Strip.{Strip}

-- the strip keeps to what the bundle tells of its strips
pub record LiesIn (bundle : Bundle) (strip : Strip) : Type 0 where
  pub from : bundle.least ≤ℤ strip.at
  pub to : strip.at ≤ℤ bundle.most
  pub reach : strip.reach ≤ bundle.reach
  pub last : strip.last ≤ bundle.last

-- so does each strip of the bundle
abbrev pub IsBundle : Bundle → Type 0
IsBundle bundle = All (LiesIn bundle) bundle.strips.items

-- one of the strips is this one
abbrev pub IsOneOf : List Strip → Strip → Type 0
IsOneOf strips strip = Any (λ other. other ≡ strip) strips

-- one of the bundles has the strip
abbrev pub HasStrip : List Bundle → Strip → Type 0
HasStrip bundles strip = Any (λ bundle. IsOneOf bundle.strips.items strip) bundles

-- each strip of the bundles is about a label that has a gap, and each label that is active at any scale has one
pub record AreStrips (axis : Axis) (labels : List Label) (gaps : List Gap) (bundles : List Bundle) : Type 0 where
  pub each : (strip : Strip) → HasStrip bundles strip → IsStripIn axis labels gaps strip
  pub whole : (j : ℕ) (g : Gap) (s : Fraction) → j < length gaps → IsActive (slice_index_or gaps j g) s → (strip : Strip) × HasStrip bundles strip × (strip.place ≡ j)

-- the strip comes to the others
pub record PutsStrip (strip : Strip) (old new : List Bundle) : Type 0 where
  pub kept : (other : Strip) → HasStrip old other → HasStrip new other
  pub here : HasStrip new strip
  pub only : (other : Strip) → HasStrip new other → HasStrip old other ⊎ (strip ≡ other)

-- the strip comes to the others, or the gap is empty and nothing comes
abbrev pub AddsStrip : Gap → Strip → List Bundle → List Bundle → Type 0
AddsStrip gap strip old new = PutsStrip strip old new ⊎ ((new ≡ old) × ((s : Fraction) → ¬ (IsActive gap s)))
