-- The text of features, as a tree that is printed with its members in the order given here.
use Rattle.std.specs.Prelude.{ℕ, List, map as mapped, Option, Some, None, codes}
use Rattle.ml_json.specs.View.{trees_of, pairs_of}
use Rattle.ml_json.specs.Tree.{Tree, null, flag, num, str, list, map, none, more, Pairs, no_pairs, pair}
use Rattle.ml_json.specs.Fixed.{e7_text}
use Rattle.ml_json.specs.Canonical.{canonical}
use Rattle.ml_ratio.specs.declared.feature.Feature.{Feature}
use Rattle.ml_ratio.specs.declared.feature.Prop.{Prop}
use Rattle.ml_ratio.specs.declared.feature.Scalar.{Scalar}
use Rattle.ml_ratio.specs.declared.feature.Scalar.TheVariants.{Null, Flag, Num, Str}
use Rattle.ml_geojson.specs.Shape.{Place, Shape, point, points, line, lines, polygon, polygons, some_shape_of}

-- a list, each item as a tree
abbrev pub list_tree : {X : Type 0} → (X → Tree) → List X → Tree
list_tree f xs = list (trees_of (mapped f xs))

-- a position: longitude and latitude, each with seven decimals
abbrev pub place_tree : Place → Tree
place_tree place = list (more (num (e7_text place.0)) (more (num (e7_text place.1)) none))

-- a line or ring
abbrev pub line_tree : List Place → Tree
line_tree places = list_tree place_tree places

-- lines or rings
abbrev pub lines_tree : List (List Place) → Tree
lines_tree parts = list_tree line_tree parts

-- a geometry
abbrev pub typed_tree : List ℕ → Tree → Tree
typed_tree type coordinates = map (pair (codes "type") (str type) (pair (codes "coordinates") coordinates no_pairs))

-- a shape
abbrev pub shape_tree : Shape → Tree
shape_tree (point place) = typed_tree (codes "Point") (place_tree place)
shape_tree (points places) = typed_tree (codes "MultiPoint") (line_tree places)
shape_tree (line places) = typed_tree (codes "LineString") (line_tree places)
shape_tree (lines parts) = typed_tree (codes "MultiLineString") (lines_tree parts)
shape_tree (polygon rings) = typed_tree (codes "Polygon") (lines_tree rings)
shape_tree (polygons parts) = typed_tree (codes "MultiPolygon") (list_tree lines_tree parts)

-- a shape, or null
abbrev pub geometry_tree : Option Shape → Tree
geometry_tree None = null
geometry_tree (Some shape) = shape_tree shape

-- the value of a property
abbrev pub scalar_tree : Scalar → Tree
scalar_tree Null = null
scalar_tree (Flag b) = flag b
scalar_tree (Num text) = num text
scalar_tree (Str text) = str text

-- a property as a member
abbrev pub prop_pair : Prop → List ℕ × Tree
prop_pair p = (p.key, scalar_tree p.value)

-- properties as members
abbrev pub prop_pairs : List Prop → Pairs
prop_pairs props = pairs_of (mapped prop_pair props)

-- a feature
abbrev pub feature_tree : Feature → Tree
feature_tree f =
    map (pair (codes "type") (str (codes "Feature")) (pair (codes "id") (str f.id)
    (pair (codes "geometry") (geometry_tree (some_shape_of f.geometry)) (pair (codes "properties") (map (prop_pairs f.props)) no_pairs))))

-- a collection of features
abbrev pub collection_tree : List Feature → Tree
collection_tree features =
    map (pair (codes "type") (str (codes "FeatureCollection")) (pair (codes "features") (list_tree feature_tree features) no_pairs))

-- the text of a feature
abbrev pub feature_text : Feature → List ℕ
feature_text f = canonical (feature_tree f)

-- the text of a collection
abbrev pub collection_text : List Feature → List ℕ
collection_text features = canonical (collection_tree features)
