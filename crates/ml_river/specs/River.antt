-- Where the text of a river is placed.
use Rattle.std.specs.Prelude.{◌≡◌, ℕ, ◌-◌, ℤ, pos, ◌+ℤ◌, List, [], ◌∷◌, length, slice_get, Option, Some, IsNone, IsSomeAnd, ◌⊎◌}
use Rattle.ml_ratio.specs.Geometry.{IsSamePlace}
use Rattle.ml_ratio.specs.declared.geometry.Pos.{Pos}
use Rattle.ml_ratio.specs.declared.geometry.Geometry.{Geometry}
use Rattle.ml_ratio.specs.declared.geometry.Geometry.TheVariants.{Point, MultiPoint, LineString, MultiLineString, Polygon, MultiPolygon}
use Rattle.ml_ratio.specs.Floor.{floor}
use Rattle.ml_river.specs.Run.{x_at, line_at, turned, IsWidestRun, HasNoRun}
use Rattle.ml_river.specs.Height.{IsHeight}
use Rattle.ml_river.specs.Chain.{IsChain, HasNoChain}
use Rattle.ml_river.specs.declared.class.RiverClass.{RiverClass}
use Rattle.ml_river.specs.declared.river.Shape.{Shape}
use Rattle.ml_river.specs.declared.river.Shape.TheVariants.{Chain, Straight}
use Rattle.ml_river.specs.declared.river.Placed.{Placed}

-- the shape at an anchor (x, y) of a run: the chain, or straight where there is none
abbrev pub IsShape : RiverClass → List Pos → ℤ → ℤ → List ℕ → Shape → Type 0
IsShape c run x y advances (Chain boxes) = IsChain c run x y advances boxes
IsShape c run x y advances Straight = HasNoChain c run x y advances

-- placed on a run whose x rises: half way between its ends, at the height there
pub record IsPlacedOn (c : RiverClass) (run : List Pos) (advances : List ℕ) (placed : Placed) : Type 0 where
  pub x_is : placed.anchor.x ≡ floor (x_at run 0 +ℤ x_at run (length run - 1)) (pos 2)
  pub y_is : IsHeight run placed.anchor.x placed.anchor.y
  pub shape_is : IsShape c run placed.anchor.x placed.anchor.y advances placed.shape

-- placed on the widest run
pub record IsOnWidestRun (c : RiverClass) (lines : List (List Pos)) (advances : List ℕ) (placed : Placed) : Type 0 where
  pub line : ℕ
  pub from : ℕ
  pub to : ℕ
  pub widest : IsWidestRun lines line from to
  pub on : IsPlacedOn c (turned (line_at lines line) from to) advances placed

-- without a run: straight at the first position of the first line
pub record IsAtStart (lines : List (List Pos)) (placed : Placed) : Type 0 where
  pub none : HasNoRun lines
  pub start : slice_get (line_at lines 0) 0 ≡ Some placed.anchor
  pub straight : placed.shape ≡ Straight

-- where the text of a river with these lines is placed
abbrev pub IsPlaced : RiverClass → List (List Pos) → List ℕ → Placed → Type 0
IsPlaced c lines advances placed = IsOnWidestRun c lines advances placed ⊎ IsAtStart lines placed

-- the answer says where the text is placed; shapes that are not lines have none
abbrev pub IsRiver : Geometry → List ℕ → RiverClass → Option Placed → Type 0
IsRiver (Point place) advances c answer = IsNone answer
IsRiver (MultiPoint places) advances c answer = IsNone answer
IsRiver (LineString line) advances c answer = IsSomeAnd answer (IsPlaced c (line ∷ []) advances)
IsRiver (MultiLineString lines) advances c answer = IsSomeAnd answer (IsPlaced c lines advances)
IsRiver (Polygon rings) advances c answer = IsNone answer
IsRiver (MultiPolygon parts) advances c answer = IsNone answer

-- two placings are the same: at one place, and in the same boxes or both straight
abbrev pub IsSamePlacing : Placed → Placed → Type 0
IsSamePlacing p q = IsSamePlace p.anchor q.anchor × (p.shape ≡ q.shape)
