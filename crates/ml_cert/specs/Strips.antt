-- Labels in strips, one behind another in a list.
use Rattle.std.specs.Prelude.{ℕ, ◌≡◌, ◌<◌, ◌≤◌, ◌≤ℤ◌, ◌⊎◌, All, List, length, slice_index_or, slice_range}
use Rattle.ml_ratio.specs.Fraction.{value_of, IsAtMost}
use Rattle.ml_cone.specs.Slots.{no_slot}
use Rattle.ml_cone.specs.declared.label.Label.{Label}
use Rattle.ml_cone.specs.declared.slot.Slot.{Slot}
use Rattle.ml_conflict.specs.Field.{IsSpotOf, HasSpot}
use Rattle.ml_conflict.specs.Strip.{IsStripOf}
use Rattle.ml_conflict.specs.declared.spot.Spot.{Spot}
use Rattle.ml_cert.specs.declared.strip.Strip.{Strip}

-- the slot at j is empty: it ends where the label's selectable range begins
abbrev pub IsIdle : List Label → List Slot → ℕ → Type 0
IsIdle labels slots j = (d : Label) → IsAtMost (value_of (slice_index_or slots j no_slot).until) (value_of (slice_index_or labels j d).min)

-- the first n spots are those of the labels before i whose slots are not empty
pub record AreListed (labels : List Label) (slots : List Slot) (i : ℕ) (spots : List Spot) (n : ℕ) : Type 0 where
  pub good : (k : ℕ) (d : Spot) → k < n → IsSpotOf labels (slice_index_or spots k d)
  pub each : (j : ℕ) → j < i → ((k : ℕ) × (k < n) × ((d : Spot) → (slice_index_or spots k d).place ≡ j)) ⊎ IsIdle labels slots j

-- the spots from one place until another go from south to north
abbrev pub AreRising : List Spot → ℕ → ℕ → Type 0
AreRising spots from to = (i j : ℕ) (d : Spot) → from ≤ i → i < j → j < to → (slice_index_or spots i d).y ≤ℤ (slice_index_or spots j d).y

-- the strip is one of labels
pub record IsStripIn (labels : List Label) (spots : List Spot) (strip : Strip) : Type 0 where
  pub order : strip.from ≤ strip.to
  pub within : strip.to ≤ length spots
  pub part : IsStripOf labels (slice_range spots strip.from strip.to) strip.area

-- the spots before a place are in the first n strips
pub record AreCut (labels : List Label) (spots : List Spot) (strips : List Strip) (n until : ℕ) : Type 0 where
  pub few : n ≤ length strips
  pub good : (k : ℕ) (d : Strip) → k < n → IsStripIn labels spots (slice_index_or strips k d)
  pub each : (m : ℕ) → m < until → (k : ℕ) × (k < n) × ((d : Strip) → ((slice_index_or strips k d).from ≤ m) × (m < (slice_index_or strips k d).to))

-- one of the first n strips has the spot of the label at j
abbrev pub SeesStrip : List Spot → List Strip → ℕ → ℕ → Type 0
SeesStrip spots strips n j = (k : ℕ) × (k < n) × ((d : Strip) → HasSpot (slice_range spots (slice_index_or strips k d).from (slice_index_or strips k d).to) j)

-- the strips are ones of labels, and they have each label whose slot is not empty
pub record IsFieldOf (labels : List Label) (slots : List Slot) (spots : List Spot) (strips : List Strip) : Type 0 where
  pub good : All (IsStripIn labels spots) strips
  pub held : (j : ℕ) → j < length labels → SeesStrip spots strips (length strips) j ⊎ IsIdle labels slots j
