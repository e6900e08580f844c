-- A feature's geometry, as a map with a type and coordinates.
use Rattle.std.specs.Prelude.{ℕ, List, [], ◌∷◌, Option, Some, None, Ok, Err, codes, if◌then◌else◌}
use Rattle.ml_json.specs.Tree.{Tree, null, map, Trees, none, more, Pairs}
use Rattle.ml_geojson.specs.Shape.{Shape, point, points, line, lines, polygon, polygons}
use Rattle.ml_geojson.specs.Members.{member, is_text}
use Rattle.ml_geojson.specs.Positions.{Reading, then_made, in_list, position, positions, line_parts, rings, polygon_parts}
use Rattle.ml_geojson.specs.declared.kind.Kind.{Kind}
use Rattle.ml_geojson.specs.declared.kind.Kind.TheVariants.{Point, MultiPoint, LineString, MultiLineString, Polygon, MultiPolygon}
use Rattle.ml_geojson.specs.declared.fault.GeoFault.TheVariants.{BadGeometry}

-- a shape of some parts; of none there is no shape
abbrev pub some_shape : {X : Type 0} → (List X → Shape) → List X → Option Shape
some_shape f [] = None
some_shape f (x ∷ xs) = Some (f (x ∷ xs))

-- a point's coordinates
abbrev pub point_shape : ℕ → Trees → Reading (Option Shape)
point_shape k none = Ok None
point_shape k (more t ts) = then_made (λ place. Some (point place)) (position k (more t ts))

-- the shape of a kind that coordinates make
abbrev pub shape_by : ℕ → Kind → Trees → Reading (Option Shape)
shape_by k Point items = point_shape k items
shape_by k MultiPoint items = then_made (some_shape points) (positions k items)
shape_by k LineString items = then_made (some_shape line) (positions k items)
shape_by k MultiLineString items = then_made (some_shape lines) (line_parts k items)
shape_by k Polygon items = then_made (some_shape polygon) (rings k items)
shape_by k MultiPolygon items = then_made (some_shape polygons) (polygon_parts k items)

-- the kind that a type names
abbrev pub kind_of : Option Tree → Option Kind
kind_of type =
    if is_text (codes "Point") type then Some Point
    else (if is_text (codes "MultiPoint") type then Some MultiPoint
    else (if is_text (codes "LineString") type then Some LineString
    else (if is_text (codes "MultiLineString") type then Some MultiLineString
    else (if is_text (codes "Polygon") type then Some Polygon
    else (if is_text (codes "MultiPolygon") type then Some MultiPolygon else None)))))

-- the shape of a kind; the kind has to be known, and the coordinates a list
abbrev pub kind_shape : ℕ → Option Kind → Option Tree → Reading (Option Shape)
kind_shape k None coordinates = Err (BadGeometry k)
kind_shape k (Some kind) None = Err (BadGeometry k)
kind_shape k (Some kind) (Some tree) = in_list k (shape_by k kind) tree

-- the shape of a map with a type; a collection of geometries has none, and its content is not looked at
abbrev pub typed_shape : ℕ → Pairs → Reading (Option Shape)
typed_shape k ps = if is_text (codes "GeometryCollection") (member (codes "type") ps) then Ok None else kind_shape k (kind_of (member (codes "type") ps)) (member (codes "coordinates") ps)

-- the shape of a geometry; absent or null, there is none
abbrev pub geometry : ℕ → Option Tree → Reading (Option Shape)
geometry k None = Ok None
geometry k (Some null) = Ok None
geometry k (Some (map ps)) = typed_shape k ps
geometry k (Some tree) = Err (BadGeometry k)
