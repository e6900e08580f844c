-- The shape of a feature in plain numbers.
use Rattle.std.specs.Prelude.{ℤ, List, map, Option}
use Rattle.std.specs.Option.{option_map}
use Rattle.ml_ratio.specs.declared.geometry.Pos.{Pos}
use Rattle.ml_ratio.specs.declared.geometry.Geometry.{Geometry}
use Rattle.ml_ratio.specs.declared.geometry.Geometry.TheVariants.{Point, MultiPoint, LineString, MultiLineString, Polygon, MultiPolygon}

-- longitude and latitude in units of 10^-7 degree
abbrev pub Place : Type 0
Place = ℤ × ℤ

-- a shape, made of places, of lines or rings of them, or of polygons
pub data Shape : Type 0 where
  point : Place → Shape
  points : List Place → Shape
  line : List Place → Shape
  lines : List (List Place) → Shape
  polygon : List (List Place) → Shape
  polygons : List (List (List Place)) → Shape

-- the place of a position
abbrev pub place_of : Pos → Place
place_of position = (position.x, position.y)

-- the places of a line or ring
abbrev pub places_of : List Pos → List Place
places_of positions = map place_of positions

-- those of several lines or rings
abbrev pub lines_of : List (List Pos) → List (List Place)
lines_of parts = map places_of parts

-- those of several polygons
abbrev pub polygons_of : List (List (List Pos)) → List (List (List Place))
polygons_of parts = map lines_of parts

-- the shape that a geometry is
abbrev pub shape_of : Geometry → Shape
shape_of (Point position) = point (place_of position)
shape_of (MultiPoint positions) = points (places_of positions)
shape_of (LineString positions) = line (places_of positions)
shape_of (MultiLineString parts) = lines (lines_of parts)
shape_of (Polygon rings) = polygon (lines_of rings)
shape_of (MultiPolygon parts) = polygons (polygons_of parts)

-- the shape, if there is one
abbrev pub some_shape_of : Option Geometry → Option Shape
some_shape_of geometry = option_map shape_of geometry
