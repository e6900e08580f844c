-- The anchors of points and areas.
use Rattle.std.specs.Prelude.{◌≡◌, ℕ, ℤ, pos, ◌+ℤ◌, ◌<ℤ◌, List, [], length, slice_index_or, slice_get, Option, Some, None, IsNone, IsSomeAnd}
use Rattle.ml_ratio.specs.declared.geometry.Pos.{Pos}
use Rattle.ml_ratio.specs.declared.geometry.Geometry.{Geometry}
use Rattle.ml_ratio.specs.declared.geometry.Geometry.TheVariants.{Point, MultiPoint, LineString, MultiLineString, Polygon, MultiPolygon}
use Rattle.ml_ratio.specs.Floor.{floor}
use Rattle.ml_anchor.specs.Best.{IsFirstGreatest}
use Rattle.ml_anchor.specs.Ring.{west, east, south, north, box_area}
use Rattle.ml_anchor.specs.Scan.{crossings}
use Rattle.ml_anchor.specs.Pairs.{IsMiddle}

-- a point or some points
abbrev pub IsPointKind : Geometry → Type 0
IsPointKind (Point place) = Unit {0}
IsPointKind (MultiPoint places) = Unit {0}
IsPointKind (LineString line) = ⊥
IsPointKind (MultiLineString lines) = ⊥
IsPointKind (Polygon rings) = ⊥
IsPointKind (MultiPolygon parts) = ⊥

-- the point, or the first of some points; other shapes have none
abbrev pub point_of : Geometry → Option Pos
point_of (Point place) = Some place
point_of (MultiPoint places) = slice_get places 0
point_of (LineString line) = None
point_of (MultiLineString lines) = None
point_of (Polygon rings) = None
point_of (MultiPolygon parts) = None

-- the outer ring of a polygon, which is its first
abbrev pub outer : List (List Pos) → List Pos
outer rings = slice_index_or rings 0 []

-- the anchor of a polygon: half way up its outer ring, in the middle of the widest stretch inside; of a flat one the middle of its box
pub record IsPolygonAnchor (rings : List (List Pos)) (anchor : Pos) : Type 0 where
  pub flat : south (outer rings) ≡ north (outer rings) → (anchor.x ≡ floor (west (outer rings) +ℤ east (outer rings)) (pos 2)) × (anchor.y ≡ south (outer rings))
  pub tall : south (outer rings) <ℤ north (outer rings) →
      IsMiddle (crossings (south (outer rings) +ℤ north (outer rings)) rings) anchor.x × (anchor.y ≡ floor (south (outer rings) +ℤ north (outer rings)) (pos 2))

-- the area of the bounding box of the outer ring of the part at i
abbrev pub part_area : List (List (List Pos)) → ℕ → ℤ
part_area parts i = box_area (outer (slice_index_or parts i []))

-- the part at i has the greatest bounding box, the first at a tie
abbrev pub IsLargestPart : List (List (List Pos)) → ℕ → Type 0
IsLargestPart parts i = IsFirstGreatest (part_area parts) (length parts) i

-- the answer is the anchor of an area: of its largest part, where it has several; other shapes have none
abbrev pub IsAreaAnchor : Geometry → Option Pos → Type 0
IsAreaAnchor (Point place) answer = IsNone answer
IsAreaAnchor (MultiPoint places) answer = IsNone answer
IsAreaAnchor (LineString line) answer = IsNone answer
IsAreaAnchor (MultiLineString lines) answer = IsNone answer
IsAreaAnchor (Polygon rings) answer = IsSomeAnd answer (IsPolygonAnchor rings)
IsAreaAnchor (MultiPolygon parts) answer =
    IsSomeAnd answer (λ anchor. (i : ℕ) × IsLargestPart parts i × IsPolygonAnchor (slice_index_or parts i []) anchor)
