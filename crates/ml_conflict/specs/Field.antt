-- Labels in order from west to east.
use Rattle.std.specs.Prelude.{◌≡◌, ℕ, ℤ, ◌<◌, ◌≤◌, ◌≤ℤ◌, All, AllPairs, Contains, List, length, slice_index_or}
use Rattle.ml_ratio.specs.declared.ratio.Ratio.{Ratio}
use Rattle.ml_cone.specs.SiteOf.{IsSiteOf}
use Rattle.ml_cone.specs.declared.label.Label.{Label}
use Rattle.ml_conflict.specs.Reach.{Reaches, IsFar}
use Rattle.ml_conflict.specs.declared.axis.Axis.TheVariants.{Across}
use Rattle.ml_conflict.specs.declared.spot.Spot.{Spot}

-- the label at a place, with its anchor and its site
pub record IsSpotOf (labels : List Label) (spot : Spot) : Type 0 where
  pub there : spot.place < length labels
  pub x : (d : Label) → spot.x ≡ (slice_index_or labels spot.place d).x
  pub y : (d : Label) → spot.y ≡ (slice_index_or labels spot.place d).y
  pub site : (d : Label) → IsSiteOf spot.site (slice_index_or labels spot.place d)

-- one of the spots is that of the label at j
abbrev pub HasSpot : List Spot → ℕ → Type 0
HasSpot spots j = (spot : Spot) × Contains spots spot × (spot.place ≡ j)

-- the spots are those of all labels, from west to east, and no label reaches further to the west or east than `reach`
pub record IsFieldOf (labels : List Label) (spots : List Spot) (reach : ℕ) : Type 0 where
  pub good : All (IsSpotOf labels) spots
  pub each : (j : ℕ) → j < length labels → HasSpot spots j
  pub rising : AllPairs (λ a b. a.x ≤ℤ b.x) spots
  pub reaches : All (λ a. Reaches Across a reach) labels
  pub low : reach ≤ 576

-- the coordinate u lies beyond v, and too far away for so many pixels up to the bound
abbrev pub IsBeyond : ℤ → ℤ → ℕ → Ratio → Type 0
IsBeyond u v pixels bound = (v ≤ℤ u) × IsFar u v pixels bound

-- one of the spots from one place until another is that of the label at j
abbrev pub SeesSpot : List Spot → ℕ → ℕ → ℕ → Type 0
SeesSpot spots from until j = (k : ℕ) × (from ≤ k) × (k < until) × ((d : Spot) → (slice_index_or spots k d).place ≡ j)
