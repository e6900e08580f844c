-- The boxes of a text's clusters along a run.
use Rattle.std.specs.Prelude.{◌≡◌, ℕ, ◌+◌, ◌*◌, ◌/◌, ◌<◌, ◌≤◌, max, nat_lt, ℤ, pos, ◌+ℤ◌, ◌-ℤ◌, ◌*ℤ◌, List, length, take, slice_index_or, sum, All, ◌⊎◌, if◌then◌else◌, Option, MatchOption}
use Rattle.std.specs.Int.{div_ceil}
use Rattle.ml_ratio.specs.declared.geometry.Pos.{Pos}
use Rattle.ml_cone.specs.declared.label.BoxPx.{BoxPx}
use Rattle.ml_cone.specs.Plane.{IsOffset, IsBox}
use Rattle.ml_ratio.specs.Floor.{floor}
use Rattle.ml_river.specs.Height.{IsHeight, IsOutside, IsWithin}
use Rattle.ml_river.specs.declared.class.RiverClass.{RiverClass}

-- the width in pixels of a text whose advances have this sum: rounded up, at least 1
abbrev pub width : RiverClass → ℕ → ℕ
width c total = max 1 (div_ceil (total * c.size) c.units)

-- how far from the text's left end the cluster at k begins, in pixels, rounded down; after the last one the text's width
unfoldable pub edge : RiverClass → List ℕ → ℕ → ℕ
edge c advances k = if nat_lt k (length advances) then sum (take k advances) * c.size / c.units else width c (sum advances)

-- half the text's width, rounded down
abbrev pub half_width : RiverClass → List ℕ → ℕ
half_width c advances = width c (sum advances) / 2

-- the left side of the box of the cluster at k
abbrev pub left : RiverClass → List ℕ → ℕ → ℤ
left c advances k = pos (edge c advances k) -ℤ pos (half_width c advances)

-- the right side of the box of the cluster at k: at least a pixel from the left one
abbrev pub right : RiverClass → List ℕ → ℕ → ℤ
right c advances k = pos (max (edge c advances (k + 1)) (edge c advances k + 1)) -ℤ pos (half_width c advances)

-- where in the world a box with these sides has its middle at the reference scale, for an anchor at x
abbrev pub middle : RiverClass → ℤ → ℤ → ℤ → ℤ
middle c x l r = x +ℤ floor ((l +ℤ r) *ℤ pos c.scale_ref) (pos 2)

-- how many pixels the height h lies above the height y at the reference scale, rounded down
abbrev pub raise : RiverClass → ℤ → ℤ → ℤ
raise c y h = floor (h -ℤ y) (pos c.scale_ref)

-- the box with the sides l and r, for an anchor at (x, y) of a run: its middle lies in the run, and it is raised to the height there
pub record IsRaisedBox (c : RiverClass) (run : List Pos) (x y l r : ℤ) (box : BoxPx) : Type 0 where
  pub left_is : box.l ≡ l
  pub right_is : box.r ≡ r
  pub height : ℤ
  pub height_is : IsHeight run (middle c x l r) height
  pub bottom_is : box.b ≡ raise c y height -ℤ pos (c.size / 2)
  pub top_is : box.t ≡ box.b +ℤ pos c.size

-- the box of the cluster at k, for an anchor at (x, y) of a run
abbrev pub IsClusterBox : RiverClass → List Pos → ℤ → ℤ → List ℕ → ℕ → BoxPx → Type 0
IsClusterBox c run x y advances k box = IsRaisedBox c run x y (left c advances k) (right c advances k) box

-- a box whose four sides are offsets, the left one west of the right one and the bottom below the top
abbrev pub IsGoodBox : BoxPx → Type 0
IsGoodBox box = IsBox box.l box.b box.r box.t

-- four sides from -512 to 512
abbrev pub AreOffsets : ℤ → ℤ → ℤ → ℤ → Type 0
AreOffsets l b r t = IsOffset l × IsOffset b × IsOffset r × IsOffset t

-- a good box with these sides
pub record HasSides (l b r t : ℤ) (box : BoxPx) : Type 0 where
  pub left_is : box.l ≡ l
  pub bottom_is : box.b ≡ b
  pub right_is : box.r ≡ r
  pub top_is : box.t ≡ t
  pub good : IsBox l b r t

-- the middle of a box with the sides l and r, where it lies in the run
pub record IsMiddleIn (c : RiverClass) (run : List Pos) (x l r m : ℤ) : Type 0 where
  pub middle_is : m ≡ middle c x l r
  pub within : IsWithin run m

-- the four sides of a box are from -512 to 512
abbrev pub HasOffsets : BoxPx → Type 0
HasOffsets box = AreOffsets box.l box.b box.r box.t

-- no box can be made of the sides l and r: the middle lies outside the run, or an offset is too large
abbrev pub HasNoBox : RiverClass → List Pos → ℤ → ℤ → ℤ → ℤ → Type 0
HasNoBox c run x y l r = IsOutside run (middle c x l r) ⊎ ((box : BoxPx) × IsRaisedBox c run x y l r box × ¬ (HasOffsets box))

-- the cluster at k has no box
abbrev pub HasNoClusterBox : RiverClass → List Pos → ℤ → ℤ → List ℕ → ℕ → Type 0
HasNoClusterBox c run x y advances k = HasNoBox c run x y (left c advances k) (right c advances k)

-- the good box with the sides l and r, or none where none can be made
abbrev pub IsRaisedBoxOrNone : RiverClass → List Pos → ℤ → ℤ → ℤ → ℤ → Option BoxPx → Type 0
IsRaisedBoxOrNone c run x y l r answer =
    MatchOption answer (HasNoBox c run x y l r) (λ box. IsRaisedBox c run x y l r box × IsGoodBox box)

-- the good box of the cluster at k, or none where it has none
abbrev pub IsClusterBoxOrNone : RiverClass → List Pos → ℤ → ℤ → List ℕ → ℕ → Option BoxPx → Type 0
IsClusterBoxOrNone c run x y advances k answer =
    MatchOption answer (HasNoClusterBox c run x y advances k) (λ box. IsClusterBox c run x y advances k box × IsGoodBox box)

-- a chain: at most 64 clusters, and for each of them its box
pub record IsChain (c : RiverClass) (run : List Pos) (x y : ℤ) (advances : List ℕ) (boxes : List BoxPx) : Type 0 where
  pub few : length advances ≤ 64
  pub one_each : length boxes ≡ length advances
  pub each : (k : ℕ) (d : BoxPx) → k < length boxes → IsClusterBox c run x y advances k (slice_index_or boxes k d)
  pub good : All IsGoodBox boxes

-- there is no chain: too many clusters, or one that has no box
abbrev pub HasNoChain : RiverClass → List Pos → ℤ → ℤ → List ℕ → Type 0
HasNoChain c run x y advances =
    (64 < length advances) ⊎ ((k : ℕ) × (k < length advances) × HasNoClusterBox c run x y advances k)

-- the chain, or none where there is none
abbrev pub IsChainOrNone : RiverClass → List Pos → ℤ → ℤ → List ℕ → Option (List BoxPx) → Type 0
IsChainOrNone c run x y advances answer =
    MatchOption answer (HasNoChain c run x y advances) (IsChain c run x y advances)
