-- The trees of features can be written: their numbers are numbers, and they are shallow.
use Rattle.std.proofs.Common.{ℕ, suc, ◌+◌, ◌≤◌, List, [], ◌∷◌, max, map as mapped, Option, Some, None, subst, arith}
use Rattle.std.specs.Prelude.{codes}
use Rattle.std.proofs.Math.Nat.{max-le}
use Rattle.std.proofs.lemmas.List.{map-id}
use Rattle.ml_json.specs.Tree.{Tree, str, map, Trees, Pairs, no_pairs, pair}
use Rattle.ml_json.specs.View.{trees_of}
use Rattle.ml_json.specs.Canonical.{nesting, items_nesting, pairs_nesting, HasNumbers, AllHaveNumbers, AllPairsHaveNumbers, IsPrintable}
use Rattle.ml_ratio.specs.Feature.{IsScalar, HaveScalars}
use Rattle.ml_ratio.specs.declared.geometry.Pos.{Pos}
use Rattle.ml_ratio.specs.declared.geometry.Geometry.{Geometry}
use Rattle.ml_ratio.specs.declared.geometry.Geometry.TheVariants.{Point, MultiPoint, LineString, MultiLineString, Polygon, MultiPolygon}
use Rattle.ml_ratio.specs.declared.feature.Feature.{Feature}
use Rattle.ml_ratio.specs.declared.feature.Prop.{Prop}
use Rattle.ml_ratio.specs.declared.feature.Scalar.{Scalar}
use Rattle.ml_ratio.specs.declared.feature.Scalar.TheVariants.{Null, Flag, Num, Str}
use Rattle.ml_geojson.proofs.JsonLaws.{JsonLaws}
use Rattle.ml_geojson.specs.Shape.{place_of, places_of, lines_of, polygons_of, some_shape_of}
use Rattle.ml_geojson.specs.Text.{list_tree, place_tree, line_tree, lines_tree, geometry_tree, scalar_tree, prop_pairs, feature_tree, collection_tree}

-- numbers are numbers, and lists and maps lie within one another at most n deep
pub record IsFlat (n : ℕ) (tree : Tree) : Type 0 where
  pub numbers : HasNumbers tree
  pub shallow : nesting tree ≤ n

record AreFlat (n : ℕ) (trees : Trees) : Type 0 where
  pub numbers : AllHaveNumbers trees
  pub shallow : items_nesting trees ≤ n

module _ {X Y : Type 0} (f : Y → Tree) (view : X → Y) (n : ℕ) (h : (x : X) → IsFlat n (f (view x))) where
  items_flat : (xs : List X) → AreFlat n (trees_of (mapped f (mapped view xs)))
  items_flat [] = record { numbers = tt; shallow = omega arith }
  items_flat (x ∷ xs) =
      let one = h x in
      let rest = items_flat xs in
      record { numbers = (one.numbers, rest.numbers); shallow = max-le one.shallow rest.shallow }

  list_flat : (xs : List X) → IsFlat (n + 1) (list_tree f (mapped view xs))
  list_flat xs = (let all = items_flat xs in record { numbers = all.numbers; shallow = (let k = all.shallow in omega arith) })

record PairsFlat (n : ℕ) (ps : Pairs) : Type 0 where
  pub numbers : AllPairsHaveNumbers ps
  pub shallow : pairs_nesting ps ≤ n

-- over the laws of JSON texts
module _ (laws : JsonLaws) where
  place_flat : (p : Pos) → IsFlat 1 (place_tree (place_of p))
  place_flat p = record { numbers = (laws.number p.x p.world_x, (laws.number p.y p.world_y, tt)); shallow = omega arith }

  line_flat : (line : List Pos) → IsFlat 2 (line_tree (places_of line))
  line_flat line = list_flat place_tree place_of 1 place_flat line

  lines_flat : (parts : List (List Pos)) → IsFlat 3 (lines_tree (lines_of parts))
  lines_flat parts = list_flat line_tree places_of 2 line_flat parts

  polygons_flat : (parts : List (List (List Pos))) → IsFlat 4 (list_tree lines_tree (polygons_of parts))
  polygons_flat parts = list_flat lines_tree lines_of 3 lines_flat parts

  typed_flat : (n : ℕ) (type : List ℕ) (coordinates : Tree) → n ≤ 4 → IsFlat n coordinates → IsFlat 5 (map (pair (codes "type") (str type) (pair (codes "coordinates") coordinates no_pairs)))
  typed_flat n type coordinates low flat =
      let k = flat.shallow in
      let inner : max 0 (max (nesting coordinates) 0) ≤ 4 = max-le (omega arith) (max-le (omega arith) (omega arith)) in
      record { numbers = (tt, (flat.numbers, tt)); shallow = omega arith }

  geometry_flat : (shape : Option Geometry) → IsFlat 5 (geometry_tree (some_shape_of shape))
  geometry_flat None = record { numbers = tt; shallow = omega arith }
  geometry_flat (Some (Point p)) = typed_flat 1 (codes "Point") (place_tree (place_of p)) (omega arith) (place_flat p)
  geometry_flat (Some (MultiPoint positions)) = typed_flat 2 (codes "MultiPoint") (line_tree (places_of positions)) (omega arith) (line_flat positions)
  geometry_flat (Some (LineString line)) = typed_flat 2 (codes "LineString") (line_tree (places_of line)) (omega arith) (line_flat line)
  geometry_flat (Some (MultiLineString lines)) = typed_flat 3 (codes "MultiLineString") (lines_tree (lines_of lines)) (omega arith) (lines_flat lines)
  geometry_flat (Some (Polygon rings)) = typed_flat 3 (codes "Polygon") (lines_tree (lines_of rings)) (omega arith) (lines_flat rings)
  geometry_flat (Some (MultiPolygon parts)) = typed_flat 4 (codes "MultiPolygon") (list_tree lines_tree (polygons_of parts)) (omega arith) (polygons_flat parts)

  scalar_flat : (value : Scalar) → IsScalar value → IsFlat 0 (scalar_tree value)
  scalar_flat Null h = record { numbers = tt; shallow = omega arith }
  scalar_flat (Flag b) h = record { numbers = tt; shallow = omega arith }
  scalar_flat (Num text) h = record { numbers = laws.known text h; shallow = omega arith }
  scalar_flat (Str text) h = record { numbers = tt; shallow = omega arith }

  props_flat : (props : List Prop) → HaveScalars props → PairsFlat 0 (prop_pairs props)
  props_flat [] h = record { numbers = tt; shallow = omega arith }
  props_flat (p ∷ props) h =
      let one = scalar_flat p.value (h 0 p (omega arith)) in
      let rest = props_flat props (λ k d lt. h (suc k) d (omega arith)) in
      record { numbers = (one.numbers, rest.numbers); shallow = max-le one.shallow rest.shallow }

  -- the tree of a feature is at most 6 deep
  pub feature_flat : (f : Feature) → IsFlat 6 (feature_tree f)
  feature_flat f =
      let shape = geometry_flat f.geometry in
      let props = props_flat f.props f.scalars in
      let inner : max 0 (max 0 (max (nesting (geometry_tree (some_shape_of f.geometry))) (max (pairs_nesting (prop_pairs f.props) + 1) 0))) ≤ 5 =
      max-le (omega arith) (max-le (omega arith) (max-le shape.shallow (max-le (let k = props.shallow in omega arith) (omega arith)))) in
      record { numbers = (tt, (tt, (shape.numbers, (props.numbers, tt)))); shallow = omega arith }

  -- the tree of a collection of features is at most 8 deep
  pub collection_flat : (fs : List Feature) → IsFlat 8 (collection_tree fs)
  collection_flat fs =
      let all : IsFlat 7 (list_tree feature_tree fs) =
      subst (λ (gs : List Feature). IsFlat 7 (list_tree feature_tree gs)) (map-id fs) (list_flat feature_tree (λ (f : Feature). f) 6 feature_flat fs) in
      let inner : max 0 (max (nesting (list_tree feature_tree fs)) 0) ≤ 7 = max-le (omega arith) (max-le all.shallow (omega arith)) in
      record { numbers = (tt, (all.numbers, tt)); shallow = omega arith }

-- a tree that is at most 64 deep, whose numbers are numbers, can be printed
pub printable : (n : ℕ) (tree : Tree) → n ≤ 64 → IsFlat n tree → IsPrintable tree
printable n tree low flat = record { numbers = flat.numbers; shallow = (let k = flat.shallow in omega arith) }
