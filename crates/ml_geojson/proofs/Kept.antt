-- What a feature's reading can refuse: never the text, the collection, or the want of an id.
use Rattle.std.proofs.Common.{ℕ, ◌+◌, ℤ, List, [], ◌∷◌, Bool, true, false, cond, Option, Some, None, Ok, Err, length}
use Rattle.std.specs.Prelude.{nat_lt, codes}
use Rattle.ml_json.specs.Tree.{Tree, null, flag, num, str, list, map, Trees, none, more, Pairs}
use Rattle.ml_json.specs.Decimal.{e7_of}
use Rattle.ml_geojson.specs.Shape.{Place, point, points, line, lines, polygon, polygons}
use Rattle.ml_geojson.specs.Members.{member, is_text}
use Rattle.ml_geojson.specs.Positions.{Reading, then_made, then_read, each, in_world, number, numbers, position, in_list, positions, closed, long_ring, ring, filled, line_parts, rings, polygon_parts}
use Rattle.ml_geojson.specs.Geometry.{some_shape, point_shape, shape_by, kind_of, kind_shape, geometry}
use Rattle.ml_geojson.specs.Collection.{parts_with, feature, features, listed, collected, collection}
use Rattle.ml_geojson.specs.declared.kind.Kind.{Kind}
use Rattle.ml_geojson.specs.declared.kind.Kind.TheVariants.{Point, MultiPoint, LineString, MultiLineString, Polygon, MultiPolygon}
use Rattle.ml_geojson.specs.declared.fault.GeoFault.TheVariants.{NotJson, Deep, NotCollection, NotFeature, BadGeometry, OutOfRange, ShortRing, NoId, Memory}

-- what is read is a value, or is refused for its kind, its geometry, a position or a ring
abbrev pub Kept : {X : Type 0} → Reading X → Type 0
Kept (Ok x) = Unit {0}
Kept (Err (NotFeature k)) = Unit {0}
Kept (Err (BadGeometry k)) = Unit {0}
Kept (Err (OutOfRange k)) = Unit {0}
Kept (Err (ShortRing k)) = Unit {0}
Kept (Err fault) = ⊥

module _ {X : Type 0} where
  kept_cond : (t : Bool) (a b : Reading X) → Kept a → Kept b → Kept (cond t a b)
  kept_cond true a b h g = h
  kept_cond false a b h g = g

  module _ {Y : Type 0} where
    kept_made : (f : X → Y) (reading : Reading X) → Kept reading → Kept (then_made f reading)
    kept_made f (Ok x) h = tt
    kept_made f (Err fault) h = h

    kept_read : (f : X → Reading Y) (reading : Reading X) → Kept reading → ((x : X) → Kept (f x)) → Kept (then_read f reading)
    kept_read f (Ok x) h g = g x
    kept_read f (Err fault) h g = h

kept_each : {X : Type 0} (f : Tree → Reading X) → ((t : Tree) → Kept (f t)) → (ts : Trees) → Kept (each f ts)
kept_each f h none = tt
kept_each f h (more t ts) = kept_read (λ x. then_made (λ xs. x ∷ xs) (each f ts)) (f t) (h t) (λ x. kept_made (λ xs. x ∷ xs) (each f ts) (kept_each f h ts))

module _ (k : ℕ) where
  kept_world : (x y : Option ℤ) → Kept (in_world k x y)
  kept_world (Some x) (Some y) = tt
  kept_world (Some x) None = tt
  kept_world None y = tt

  kept_numbers : (x y : Option (List ℕ)) → Kept (numbers k x y)
  kept_numbers (Some x) (Some y) = kept_world (e7_of x) (e7_of y)
  kept_numbers (Some x) None = tt
  kept_numbers None y = tt

  kept_position : (ts : Trees) → Kept (position k ts)
  kept_position none = tt
  kept_position (more x none) = tt
  kept_position (more x (more y ts)) = kept_numbers (number x) (number y)

  kept_list : {X : Type 0} (f : Trees → Reading X) → ((ts : Trees) → Kept (f ts)) → (t : Tree) → Kept (in_list k f t)
  kept_list f h (list ts) = h ts
  kept_list f h null = tt
  kept_list f h (flag b) = tt
  kept_list f h (num s) = tt
  kept_list f h (str s) = tt
  kept_list f h (map ps) = tt

  kept_positions : (ts : Trees) → Kept (positions k ts)
  kept_positions ts = kept_each (in_list k (position k)) (kept_list (position k) kept_position) ts

  kept_long : (places : List Place) → Kept (long_ring k places)
  kept_long [] = tt
  kept_long (p ∷ ps) = kept_cond (nat_lt (length (p ∷ ps)) 4) (Err (ShortRing k)) (Ok (p ∷ ps)) tt tt

  kept_ring : (ts : Trees) → Kept (ring k ts)
  kept_ring ts = kept_read (λ places. long_ring k (closed places)) (positions k ts) (kept_positions ts) (λ places. kept_long (closed places))

  kept_lines : (ts : Trees) → Kept (line_parts k ts)
  kept_lines ts = kept_made filled (each (in_list k (positions k)) ts) (kept_each (in_list k (positions k)) (kept_list (positions k) kept_positions) ts)

  kept_rings : (ts : Trees) → Kept (rings k ts)
  kept_rings ts = kept_made filled (each (in_list k (ring k)) ts) (kept_each (in_list k (ring k)) (kept_list (ring k) kept_ring) ts)

  kept_polygons : (ts : Trees) → Kept (polygon_parts k ts)
  kept_polygons ts = kept_made filled (each (in_list k (rings k)) ts) (kept_each (in_list k (rings k)) (kept_list (rings k) kept_rings) ts)

  kept_point : (ts : Trees) → Kept (point_shape k ts)
  kept_point none = tt
  kept_point (more t ts) = kept_made (λ place. Some (point place)) (position k (more t ts)) (kept_position (more t ts))

  kept_by : (kind : Kind) (ts : Trees) → Kept (shape_by k kind ts)
  kept_by Point ts = kept_point ts
  kept_by MultiPoint ts = kept_made (some_shape points) (positions k ts) (kept_positions ts)
  kept_by LineString ts = kept_made (some_shape line) (positions k ts) (kept_positions ts)
  kept_by MultiLineString ts = kept_made (some_shape lines) (line_parts k ts) (kept_lines ts)
  kept_by Polygon ts = kept_made (some_shape polygon) (rings k ts) (kept_rings ts)
  kept_by MultiPolygon ts = kept_made (some_shape polygons) (polygon_parts k ts) (kept_polygons ts)

  kept_kind : (kind : Option Kind) (value : Option Tree) → Kept (kind_shape k kind value)
  kept_kind None value = tt
  kept_kind (Some kind) None = tt
  kept_kind (Some kind) (Some t) = kept_list (shape_by k kind) (kept_by kind) t

  kept_geometry : (value : Option Tree) → Kept (geometry k value)
  kept_geometry None = tt
  kept_geometry (Some null) = tt
  kept_geometry (Some (map ps)) =
      kept_cond (is_text (codes "GeometryCollection") (member (codes "type") ps)) (Ok None) (kind_shape k (kind_of (member (codes "type") ps)) (member (codes "coordinates") ps)) tt
      (kept_kind (kind_of (member (codes "type") ps)) (member (codes "coordinates") ps))
  kept_geometry (Some (flag b)) = tt
  kept_geometry (Some (num s)) = tt
  kept_geometry (Some (str s)) = tt
  kept_geometry (Some (list ts)) = tt

  -- a feature's reading is refused for nothing else
  pub kept_feature : (t : Tree) → Kept (feature k t)
  kept_feature (map ps) =
      kept_cond (is_text (codes "Feature") (member (codes "type") ps)) (then_made (parts_with ps) (geometry k (member (codes "geometry") ps))) (Err (NotFeature k))
      (kept_made (parts_with ps) (geometry k (member (codes "geometry") ps)) (kept_geometry (member (codes "geometry") ps))) tt
  kept_feature null = tt
  kept_feature (flag b) = tt
  kept_feature (num s) = tt
  kept_feature (str s) = tt
  kept_feature (list ts) = tt

kept_features : (k : ℕ) (ts : Trees) → Kept (features k ts)
kept_features k none = tt
kept_features k (more t ts) =
    kept_read (λ one. then_made (λ others. one ∷ others) (features (k + 1) ts)) (feature k t) (kept_feature k t)
    (λ one. kept_made (λ others. one ∷ others) (features (k + 1) ts) (kept_features (k + 1) ts))

-- what a map file's reading can refuse besides the text
abbrev pub KeptMap : {X : Type 0} → Reading X → Type 0
KeptMap (Err NotCollection) = Unit {0}
KeptMap reading = Kept reading

module _ {X : Type 0} where
  kept_map : (reading : Reading X) → Kept reading → KeptMap reading
  kept_map (Ok x) h = tt
  kept_map (Err (NotFeature k)) h = tt
  kept_map (Err (BadGeometry k)) h = tt
  kept_map (Err (OutOfRange k)) h = tt
  kept_map (Err (ShortRing k)) h = tt
  kept_map (Err (NotJson at)) h = absurd h
  kept_map (Err (Deep at)) h = absurd h
  kept_map (Err NotCollection) h = absurd h
  kept_map (Err NoId) h = absurd h
  kept_map (Err Memory) h = absurd h

  kept_map_cond : (t : Bool) (a b : Reading X) → KeptMap a → KeptMap b → KeptMap (cond t a b)
  kept_map_cond true a b h g = h
  kept_map_cond false a b h g = g

kept_listed : (value : Option Tree) → KeptMap (listed value)
kept_listed (Some (list ts)) = kept_map (features 0 ts) (kept_features 0 ts)
kept_listed None = tt
kept_listed (Some null) = tt
kept_listed (Some (flag b)) = tt
kept_listed (Some (num s)) = tt
kept_listed (Some (str s)) = tt
kept_listed (Some (map ps)) = tt

kept_collected : (ps : Pairs) → KeptMap (collected ps)
kept_collected ps = kept_map_cond (is_text (codes "FeatureCollection") (member (codes "type") ps))
    (listed (member (codes "features") ps)) (Err NotCollection) (kept_listed (member (codes "features") ps)) tt

-- a map file's reading is refused for nothing else, but for being no collection
pub kept_collection : (t : Tree) → KeptMap (collection t)
kept_collection (map ps) =
    kept_map_cond (is_text (codes "Feature") (member (codes "type") ps)) (features 0 (more (map ps) none)) (collected ps)
    (kept_map (features 0 (more (map ps) none)) (kept_features 0 (more (map ps) none))) (kept_collected ps)
kept_collection null = tt
kept_collection (flag b) = tt
kept_collection (num s) = tt
kept_collection (str s) = tt
kept_collection (list ts) = tt
