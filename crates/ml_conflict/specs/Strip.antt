-- Labels in strips of the world.
use Rattle.std.specs.Prelude.{ℕ, ◌+◌, ◌*◌, ◌<◌, ◌≤◌, ◌≤ℤ◌, All, AllPairs, List, length, slice_index_or}
use Rattle.ml_cone.specs.declared.label.Label.{Label}
use Rattle.ml_ratio.specs.Fraction.{Fraction}
use Rattle.ml_conflict.specs.Area.{IsInArea}
use Rattle.ml_conflict.specs.Begin.{SetsNoneUpTo}
use Rattle.ml_conflict.specs.Field.{IsSpotOf, HasSpot}
use Rattle.ml_conflict.specs.declared.area.Area.{Area}
use Rattle.ml_conflict.specs.declared.spot.Spot.{Spot}
use Rattle.ml_conflict.specs.declared.strip.Strip.{Strip}

-- the spots are those of labels of the list, from south to north, and the area holds these labels
pub record IsStripOf (labels : List Label) (spots : List Spot) (area : Area) : Type 0 where
  pub good : All (IsSpotOf labels) spots
  pub rising : AllPairs (λ a b. a.y ≤ℤ b.y) spots
  pub held : All (λ spot. (d : Label) → IsInArea (slice_index_or labels spot.place d) area) spots

-- so is each strip
abbrev pub AreStrips : List Label → List Strip → Type 0
AreStrips labels strips = All (λ strip. IsStripOf labels strip.spots.items strip.area) strips

-- one of the strips from one until another has the spot of the label at j
abbrev pub SeesStrip : List Strip → ℕ → ℕ → ℕ → Type 0
SeesStrip strips from until j = (k : ℕ) × (from ≤ k) × (k < until) × ((d : Strip) → HasSpot (slice_index_or strips k d).spots.items j)

-- one of the strips has the spot of the label at j
abbrev pub HasPlace : List Strip → ℕ → Type 0
HasPlace strips j = SeesStrip strips 0 (length strips) j

-- each area holds what lies in eight strips that stand beside one another, of those that have a spot
abbrev pub AreBlocks : List Strip → List Area → Type 0
AreBlocks strips blocks = (b k : ℕ) (e : Area) (d : Strip) (j : ℕ) (a : Label) → b < length blocks → b * 8 ≤ k → k < b * 8 + 8 → k < length strips →
    HasSpot (slice_index_or strips k d).spots.items j → IsInArea a (slice_index_or strips k d).area → IsInArea a (slice_index_or blocks b e)

-- no label that has its spot in one of the strips from one until another sets a label in the area a limit up to the bound
abbrev pub AreAway : List Label → List Strip → ℕ → ℕ → Area → Fraction → Type 0
AreAway labels strips from until area bound = (low : Label) (j : ℕ) (u : Fraction) → IsInArea low area → SeesStrip strips from until j → SetsNoneUpTo low (slice_index_or labels j low) u bound
