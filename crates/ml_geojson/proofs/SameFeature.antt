-- Features of the same id, shape and properties are one, since each fact that a feature carries has one proof at most.
use Rattle.std.proofs.Common.{◌≡◌, List, [], ◌∷◌, map, Option, Some, None, refl, ap}
use Rattle.std.proofs.Props.{props}
use Rattle.std.proofs.lemmas.Option.{same_Some}
use mathlib.Core.HLevel.{is_prop→PathP}
use Rattle.ml_ratio.specs.Feature.{HaveScalars, HaveScalars-prop, AreAscending}
use Rattle.ml_ratio.specs.Geometry.{IsSomeGeometry, IsSomeGeometry-prop}
use Rattle.ml_ratio.specs.World.{IsInWorld}
use Rattle.ml_ratio.specs.declared.feature.Feature.{Feature}
use Rattle.ml_ratio.specs.declared.geometry.Pos.{Pos}
use Rattle.ml_ratio.specs.declared.geometry.Geometry.{Geometry}
use Rattle.ml_ratio.specs.declared.geometry.Geometry.TheVariants.{Point, MultiPoint, LineString, MultiLineString, Polygon, MultiPolygon}
use Rattle.ml_geojson.specs.Shape.{Place, place_of, places_of, lines_of, polygons_of, shape_of, some_shape_of}

-- positions with the same coordinates
same_fields : (p q : Pos) → p.x ≡ q.x → p.y ≡ q.y → p ≡ q
same_fields p q e f i =
    record {
      x = e i;
      y = f i;
      world_x = is_prop→PathP (λ j. IsInWorld (e j)) (λ j. hlevel props) p.world_x q.world_x i;
      world_y = is_prop→PathP (λ j. IsInWorld (f j)) (λ j. hlevel props) p.world_y q.world_y i;
    }

same_pos : (p q : Pos) → place_of p ≡ place_of q → p ≡ q
same_pos p q e = same_fields p q (ap (λ (at : Place). at.0) e) (ap (λ (at : Place). at.1) e)

-- what is told apart is told apart in lists
map_same : {A B : Type 0} (f : A → B) → ((a b : A) → f a ≡ f b → a ≡ b) → (xs ys : List A) → map f xs ≡ map f ys → xs ≡ ys
map_same f same [] [] e = refl
map_same f same [] (y ∷ ys) e = cc
map_same f same (x ∷ xs) [] e = cc
map_same f same (x ∷ xs) (y ∷ ys) e =
    let first : f x ≡ f y = cc in
    let others : map f xs ≡ map f ys = cc in
    let head = same x y first in
    let tail = map_same f same xs ys others in
    cc

same_places : (xs ys : List Pos) → places_of xs ≡ places_of ys → xs ≡ ys
same_places = map_same place_of same_pos

same_lines : (xs ys : List (List Pos)) → lines_of xs ≡ lines_of ys → xs ≡ ys
same_lines = map_same places_of same_places

same_polygons : (xs ys : List (List (List Pos))) → polygons_of xs ≡ polygons_of ys → xs ≡ ys
same_polygons = map_same lines_of same_lines

same_geometry : (one other : Geometry) → shape_of one ≡ shape_of other → one ≡ other
same_geometry (Point p) (Point q) e = (let f : place_of p ≡ place_of q = cc in ap Point (same_pos p q f))
same_geometry (Point p) (MultiPoint q) e = cc
same_geometry (Point p) (LineString q) e = cc
same_geometry (Point p) (MultiLineString q) e = cc
same_geometry (Point p) (Polygon q) e = cc
same_geometry (Point p) (MultiPolygon q) e = cc
same_geometry (MultiPoint p) (Point q) e = cc
same_geometry (MultiPoint p) (MultiPoint q) e = (let f : places_of p ≡ places_of q = cc in ap MultiPoint (same_places p q f))
same_geometry (MultiPoint p) (LineString q) e = cc
same_geometry (MultiPoint p) (MultiLineString q) e = cc
same_geometry (MultiPoint p) (Polygon q) e = cc
same_geometry (MultiPoint p) (MultiPolygon q) e = cc
same_geometry (LineString p) (Point q) e = cc
same_geometry (LineString p) (MultiPoint q) e = cc
same_geometry (LineString p) (LineString q) e = (let f : places_of p ≡ places_of q = cc in ap LineString (same_places p q f))
same_geometry (LineString p) (MultiLineString q) e = cc
same_geometry (LineString p) (Polygon q) e = cc
same_geometry (LineString p) (MultiPolygon q) e = cc
same_geometry (MultiLineString p) (Point q) e = cc
same_geometry (MultiLineString p) (MultiPoint q) e = cc
same_geometry (MultiLineString p) (LineString q) e = cc
same_geometry (MultiLineString p) (MultiLineString q) e = (let f : lines_of p ≡ lines_of q = cc in ap MultiLineString (same_lines p q f))
same_geometry (MultiLineString p) (Polygon q) e = cc
same_geometry (MultiLineString p) (MultiPolygon q) e = cc
same_geometry (Polygon p) (Point q) e = cc
same_geometry (Polygon p) (MultiPoint q) e = cc
same_geometry (Polygon p) (LineString q) e = cc
same_geometry (Polygon p) (MultiLineString q) e = cc
same_geometry (Polygon p) (Polygon q) e = (let f : lines_of p ≡ lines_of q = cc in ap Polygon (same_lines p q f))
same_geometry (Polygon p) (MultiPolygon q) e = cc
same_geometry (MultiPolygon p) (Point q) e = cc
same_geometry (MultiPolygon p) (MultiPoint q) e = cc
same_geometry (MultiPolygon p) (LineString q) e = cc
same_geometry (MultiPolygon p) (MultiLineString q) e = cc
same_geometry (MultiPolygon p) (Polygon q) e = cc
same_geometry (MultiPolygon p) (MultiPolygon q) e = (let f : polygons_of p ≡ polygons_of q = cc in ap MultiPolygon (same_polygons p q f))

same_some : (one other : Option Geometry) → some_shape_of one ≡ some_shape_of other → one ≡ other
same_some None None e = refl
same_some None (Some other) e = cc
same_some (Some one) None e = cc
same_some (Some one) (Some other) e = ap Some (same_geometry one other (same_Some (shape_of one) (shape_of other) e))

same_parts : (f g : Feature) → f.id ≡ g.id → f.geometry ≡ g.geometry → f.props ≡ g.props → f ≡ g
same_parts f g id geometry properties i =
    record {
      id = id i;
      geometry = geometry i;
      props = properties i;
      shaped = is_prop→PathP (λ j. IsSomeGeometry (geometry j)) (λ j. IsSomeGeometry-prop (geometry j)) f.shaped g.shaped i;
      scalars = is_prop→PathP (λ j. HaveScalars (properties j)) (λ j. HaveScalars-prop (properties j)) f.scalars g.scalars i;
      ascending = is_prop→PathP (λ j. AreAscending (properties j)) (λ j. hlevel props) f.ascending g.ascending i;
    }

-- two features of the same id, shape and properties are one
pub same_is_one : (one other : Feature) → one.id ≡ other.id → some_shape_of one.geometry ≡ some_shape_of other.geometry → one.props ≡ other.props → one ≡ other
same_is_one one other id shape properties = same_parts one other id (same_some one.geometry other.geometry shape) properties
