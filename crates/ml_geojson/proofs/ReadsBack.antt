-- The trees of features read as the features.
use Rattle.std.proofs.Common.{◌≡◌, ℕ, suc, ◌+◌, ◌-◌, ◌<◌, List, [], ◌∷◌, ◌++◌, length, map as mapped, get_or, Bool, true, cond, Option, Some, None, Ok, refl, ap, ◌∙◌, arith}
use Rattle.std.specs.Prelude.{All}
use Rattle.std.proofs.lemmas.Bool.Decides.{Decides-int_eq}
use Rattle.ml_json.specs.Tree.{Tree, map}
use Rattle.ml_json.specs.View.{trees_of}
use Rattle.ml_json.specs.Canonical.{settled}
use Rattle.ml_ratio.specs.Geometry.{HasParts, IsClosed, IsRing, IsPolygon, IsGeometry, IsSomeGeometry}
use Rattle.ml_ratio.specs.declared.geometry.Pos.{Pos}
use Rattle.ml_ratio.specs.declared.geometry.Geometry.{Geometry}
use Rattle.ml_ratio.specs.declared.geometry.Geometry.TheVariants.{Point, MultiPoint, LineString, MultiLineString, Polygon, MultiPolygon}
use Rattle.ml_ratio.specs.declared.feature.Feature.{Feature}
use Rattle.ml_ratio.specs.declared.feature.Prop.{Prop}
use Rattle.ml_ratio.specs.declared.feature.Scalar.{Scalar}
use Rattle.ml_ratio.specs.declared.feature.Scalar.TheVariants.{Null, Flag, Num, Str}
use Rattle.ml_geojson.specs.Shape.{Shape, points, line, lines, polygon, polygons, place_of, places_of, lines_of, polygons_of, some_shape_of}
use Rattle.ml_geojson.specs.Positions.{Reading, then_made, then_read, each, position, in_list, positions, is_same, last_place, closed, long_ring, ring, filled, line_parts, rings, polygon_parts}
use Rattle.ml_geojson.specs.Geometry.{some_shape, geometry}
use Rattle.ml_geojson.specs.Properties.{scalar, scalars, with_scalar, properties}
use Rattle.ml_geojson.specs.Collection.{own_parts, feature, features, collection}
use Rattle.ml_geojson.specs.Text.{place_tree, line_tree, lines_tree, geometry_tree, scalar_tree, prop_pairs, feature_tree, collection_tree}
use Rattle.ml_geojson.proofs.JsonLaws.{JsonLaws}
use Rattle.ml_geojson.proofs.RingLemmas.{long}
use Rattle.ml_geojson.proofs.Settling.{each_settled, places_stay, lines_stay, polygons_stay, props_stay}

module _ {X : Type 0} (P : X → Type 0) where
  first : (x : X) (xs : List X) → All P (x ∷ xs) → P x
  first x xs h = h 0 x (omega arith)

  others : (x : X) (xs : List X) → All P (x ∷ xs) → All P xs
  others x xs h k d lt = h (suc k) d (omega arith)

-- items that read as what they were made of
module _ {X Y : Type 0} (P : X → Type 0) (f : Tree → Reading Y) (g : Y → Tree) (view : X → Y) (h : (x : X) → P x → f (g (view x)) ≡ Ok (view x)) where
  each_back : (xs : List X) → All P xs → each f (trees_of (mapped g (mapped view xs))) ≡ Ok (mapped view xs)
  each_back [] all = refl
  each_back (x ∷ xs) all = rw (h x (first P x xs all), each_back xs (others P x xs all)) refl

-- parts that are not empty all stay
filled_all : {A B : Type 0} (view : A → B) (xs : List (List A)) → All HasParts xs → filled (mapped (mapped view) xs) ≡ mapped (mapped view) xs
filled_all view [] all = refl
filled_all view ([] ∷ xs) all = absurd (let h : 0 < 0 = first HasParts [] xs all in omega arith)
filled_all view ((y ∷ ys) ∷ xs) all = ap (λ zs. mapped view (y ∷ ys) ∷ zs) (filled_all view xs (others HasParts (y ∷ ys) xs all))

some_made : {A B : Type 0} (f : List B → Shape) (view : A → B) (xs : List A) → HasParts xs → then_made (some_shape f) (Ok (mapped view xs)) ≡ Ok (Some (f (mapped view xs)))
some_made f view [] some = absurd (omega arith)
some_made f view (x ∷ xs) some = refl

module _ (laws : JsonLaws) (k : ℕ) where
  place_back : (p : Pos) → in_list k (position k) (place_tree (place_of p)) ≡ Ok (place_of p)
  place_back p = rw (laws.back p.x p.world_x, laws.back p.y p.world_y) refl

  positions_back : (line' : List Pos) → positions k (trees_of (mapped place_tree (places_of line'))) ≡ Ok (places_of line')
  positions_back line' = each_back (λ (p : Pos). Unit {0}) (in_list k (position k)) place_tree place_of (λ p h. place_back p) line' (λ i d lt. tt)

  last_at : (p : Pos) (rest : List Pos) (d : Pos) → last_place (place_of p) (places_of rest) ≡ place_of (get_or (p ∷ rest) (length rest) d)
  last_at p [] d = refl
  last_at p (q ∷ rest) d = last_at q rest d

  same_place : (a b : Pos) → (a.x ≡ b.x) → (a.y ≡ b.y) → is_same (place_of a) (place_of b) ≡ true
  same_place a b e g = rw ((Decides-int_eq a.x b.x).1 e, (Decides-int_eq a.y b.y).1 g) refl

  closed_back : (r : List Pos) → IsClosed r → closed (places_of r) ≡ places_of r
  closed_back [] h = refl
  closed_back (p ∷ rest) h =
      let at_end : length (p ∷ rest) - 1 ≡ length rest = omega arith in
      let last : Pos = get_or (p ∷ rest) (length rest) p in
      let same = h p in
      let there : is_same (place_of p) (place_of last) ≡ true =
      same_place p last (same.0 ∙ ap (λ (n : ℕ). (get_or (p ∷ rest) n p).x) at_end) (same.1 ∙ ap (λ (n : ℕ). (get_or (p ∷ rest) n p).y) at_end) in
      ap (λ (t : Bool). cond t (places_of (p ∷ rest)) (places_of (p ∷ rest) ++ place_of p ∷ [])) (ap (is_same (place_of p)) (last_at p rest p) ∙ there)

  ring_back : (r : List Pos) → IsRing r → ring k (trees_of (mapped place_tree (places_of r))) ≡ Ok (places_of r)
  ring_back r h = ap (then_read (λ places. long_ring k (closed places))) (positions_back r) ∙ ap (long_ring k) (closed_back r h.1) ∙ long k r (λ some. h.0)

  lines_back : (parts : List (List Pos)) → All HasParts parts → line_parts k (trees_of (mapped line_tree (lines_of parts))) ≡ Ok (lines_of parts)
  lines_back parts all =
      ap (then_made filled) (each_back HasParts (in_list k (positions k)) line_tree places_of (λ l h. positions_back l) parts all) ∙ ap Ok (filled_all place_of parts all)

  ring_parts : (r : List Pos) → IsRing r → HasParts r
  ring_parts r h = (let n = h.0 in omega arith)

  rings_back : (parts : List (List Pos)) → All IsRing parts → rings k (trees_of (mapped line_tree (lines_of parts))) ≡ Ok (lines_of parts)
  rings_back parts all =
      ap (then_made filled) (each_back IsRing (in_list k (ring k)) line_tree places_of ring_back parts all) ∙ ap Ok (filled_all place_of parts (λ i d lt. ring_parts (get_or parts i d) (all i d lt)))

  polygons_back : (parts : List (List (List Pos))) → All IsPolygon parts → polygon_parts k (trees_of (mapped lines_tree (polygons_of parts))) ≡ Ok (polygons_of parts)
  polygons_back parts all =
      ap (then_made filled) (each_back IsPolygon (in_list k (rings k)) lines_tree lines_of (λ part h. rings_back part h.1) parts all) ∙ ap Ok (filled_all places_of parts (λ i d lt. (all i d lt).0))

  shape_back : (shape : Geometry) → IsGeometry shape → geometry k (Some (settled (geometry_tree (some_shape_of (Some shape))))) ≡ Ok (some_shape_of (Some shape))
  shape_back (Point p) h = rw (place_back p) refl
  shape_back (MultiPoint positions') h =
      ap (λ items. then_made (some_shape points) (positions k items)) (places_stay (places_of positions'))
      ∙ ap (then_made (some_shape points)) (positions_back positions') ∙ some_made points place_of positions' h
  shape_back (LineString line') h =
      ap (λ items. then_made (some_shape line) (positions k items)) (places_stay (places_of line')) ∙ ap (then_made (some_shape line)) (positions_back line') ∙ some_made line place_of line' h
  shape_back (MultiLineString parts) h =
      ap (λ items. then_made (some_shape lines) (line_parts k items)) (lines_stay (lines_of parts)) ∙ ap (then_made (some_shape lines)) (lines_back parts h.1) ∙ some_made lines places_of parts h.0
  shape_back (Polygon parts) h =
      ap (λ items. then_made (some_shape polygon) (rings k items)) (lines_stay (lines_of parts)) ∙ ap (then_made (some_shape polygon)) (rings_back parts h.1) ∙ some_made polygon places_of parts h.0
  shape_back (MultiPolygon parts) h =
      ap (λ items. then_made (some_shape polygons) (polygon_parts k items)) (polygons_stay (polygons_of parts))
      ∙ ap (then_made (some_shape polygons)) (polygons_back parts h.1) ∙ some_made polygons lines_of parts h.0

  geometry_back : (shape : Option Geometry) → IsSomeGeometry shape → geometry k (Some (settled (geometry_tree (some_shape_of shape)))) ≡ Ok (some_shape_of shape)
  geometry_back None h = refl
  geometry_back (Some shape) h = shape_back shape h

with_back : (key : List ℕ) (value : Scalar) (props : List Prop) → with_scalar key (scalar (scalar_tree value)) props ≡ record { key = key; value = value } ∷ props
with_back key Null props = refl
with_back key (Flag b) props = refl
with_back key (Num text) props = refl
with_back key (Str text) props = refl

scalars_back : (props : List Prop) → scalars (prop_pairs props) ≡ props
scalars_back [] = refl
scalars_back (p ∷ props) = with_back p.key p.value (scalars (prop_pairs props)) ∙ ap (λ rest. p ∷ rest) (scalars_back props)

-- the tree of a feature reads as it
pub feature_back : (laws : JsonLaws) (k : ℕ) (f : Feature) → feature k (settled (feature_tree f)) ≡ Ok (own_parts f)
feature_back laws k f =
    let props : properties (Some (settled (map (prop_pairs f.props)))) ≡ f.props = ap (λ t. properties (Some t)) (props_stay laws f.props f.ascending) ∙ scalars_back f.props in
    ap (then_made (λ shape. record { own = Some f.id; shape = shape; props = properties (Some (settled (map (prop_pairs f.props)))) })) (geometry_back laws k f.geometry f.shaped)
    ∙ ap (λ ps. Ok (record { own = Some f.id; shape = some_shape_of f.geometry; props = ps })) props

features_back : (laws : JsonLaws) (k : ℕ) (fs : List Feature) → features k (trees_of (mapped (λ (f : Feature). settled (feature_tree f)) fs)) ≡ Ok (mapped own_parts fs)
features_back laws k [] = refl
features_back laws k (f ∷ fs) = rw (feature_back laws k f, features_back laws (k + 1) fs) refl

-- the tree of a collection reads as its features
pub collection_back : (laws : JsonLaws) (fs : List Feature) → collection (settled (collection_tree fs)) ≡ Ok (mapped own_parts fs)
collection_back laws fs = ap (features 0) (each_settled feature_tree (λ (f : Feature). settled (feature_tree f)) (λ f. refl) fs) ∙ features_back laws 0 fs
