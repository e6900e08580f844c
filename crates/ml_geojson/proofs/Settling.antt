-- The trees of features, with their maps in order.
use Rattle.std.proofs.Common.{◌≡◌, List, [], ◌∷◌, map as mapped, refl, ap, ◌∙◌}
use Rattle.std.proofs.Common.{suc, arith}
use Rattle.ml_json.specs.Tree.{Tree, list, map, more, no_pairs, pair, put_all}
use Rattle.ml_json.specs.View.{trees_of}
use Rattle.ml_json.specs.Canonical.{settled, items_settled, members_settled, IsAscending}
use Rattle.ml_ratio.specs.Feature.{AreAscending}
use Rattle.ml_ratio.specs.declared.feature.Prop.{Prop}
use Rattle.ml_ratio.specs.declared.feature.Scalar.{Scalar}
use Rattle.ml_ratio.specs.declared.feature.Scalar.TheVariants.{Null, Flag, Num, Str}
use Rattle.ml_geojson.proofs.JsonLaws.{JsonLaws}
use Rattle.ml_geojson.specs.Shape.{Place}
use Rattle.ml_geojson.specs.Text.{list_tree, place_tree, line_tree, lines_tree, scalar_tree, prop_pairs}

module _ {X : Type 0} (f g : X → Tree) (h : (x : X) → settled (f x) ≡ g x) where
  -- items whose trees settle each to another tree settle to those, one by one
  pub each_settled : (xs : List X) → items_settled (trees_of (mapped f xs)) ≡ trees_of (mapped g xs)
  each_settled [] = refl
  each_settled (x ∷ xs) = ap (λ (t : Tree). more t (items_settled (trees_of (mapped f xs)))) (h x) ∙ ap (more (g x)) (each_settled xs)

  list_settled : (xs : List X) → settled (list_tree f xs) ≡ list_tree g xs
  list_settled xs = ap list (each_settled xs)

line_settled : (places : List Place) → settled (line_tree places) ≡ line_tree places
line_settled places = list_settled place_tree place_tree (λ place. refl) places

lines_settled : (parts : List (List Place)) → settled (lines_tree parts) ≡ lines_tree parts
lines_settled parts = list_settled line_tree line_tree line_settled parts

-- places, lines and polygons as items stay
pub places_stay : (places : List Place) → items_settled (trees_of (mapped place_tree places)) ≡ trees_of (mapped place_tree places)
places_stay places = each_settled place_tree place_tree (λ place. refl) places

-- lines or rings, as items, stay as they are
pub lines_stay : (parts : List (List Place)) → items_settled (trees_of (mapped line_tree parts)) ≡ trees_of (mapped line_tree parts)
lines_stay parts = each_settled line_tree line_tree line_settled parts

-- polygons, as items, stay as they are
pub polygons_stay : (parts : List (List (List Place))) → items_settled (trees_of (mapped lines_tree parts)) ≡ trees_of (mapped lines_tree parts)
polygons_stay parts = each_settled lines_tree lines_tree lines_settled parts

scalar_settled : (value : Scalar) → settled (scalar_tree value) ≡ scalar_tree value
scalar_settled Null = refl
scalar_settled (Flag b) = refl
scalar_settled (Num text) = refl
scalar_settled (Str text) = refl

props_settled : (props : List Prop) → members_settled (prop_pairs props) ≡ prop_pairs props
props_settled [] = refl
props_settled (p ∷ props) = ap (λ (t : Tree). pair p.key t (members_settled (prop_pairs props))) (scalar_settled p.value) ∙ ap (pair p.key (scalar_tree p.value)) (props_settled props)

tail_ascending : (p : Prop) (props : List Prop) → AreAscending (p ∷ props) → AreAscending props
tail_ascending p props h i j d less lt = h (suc i) (suc j) d (omega arith) (omega arith)

pairs_ascending : (props : List Prop) → AreAscending props → IsAscending (prop_pairs props)
pairs_ascending [] h = tt
pairs_ascending (p ∷ []) h = tt
pairs_ascending (p ∷ q ∷ props) h = (h 0 1 p (omega arith) (omega arith), pairs_ascending (q ∷ props) (tail_ascending p (q ∷ props) h))

-- the properties of a feature are in order already
pub props_stay : (laws : JsonLaws) (props : List Prop) → AreAscending props → settled (map (prop_pairs props)) ≡ map (prop_pairs props)
props_stay laws props h = ap map (ap (put_all no_pairs) (props_settled props) ∙ laws.ascending (prop_pairs props) (pairs_ascending props h))
