-- A map file's features.
use Rattle.std.specs.Prelude.{ℕ, ◌+◌, List, [], ◌∷◌, Option, Some, None, Ok, Err, codes, if◌then◌else◌}
use Rattle.ml_json.specs.Tree.{Tree, num, str, list, map, Trees, none, more, Pairs}
use Rattle.ml_json.specs.Canonical.{IsOrderly}
use Rattle.ml_ratio.specs.declared.feature.Feature.{Feature}
use Rattle.ml_ratio.specs.declared.feature.Prop.{Prop}
use Rattle.ml_geojson.specs.Shape.{Shape, some_shape_of}
use Rattle.ml_geojson.specs.Members.{member, is_text}
use Rattle.ml_geojson.specs.Positions.{Reading, then_made, then_read}
use Rattle.ml_geojson.specs.Geometry.{geometry}
use Rattle.ml_geojson.specs.Properties.{properties}
use Rattle.ml_geojson.specs.declared.fault.GeoFault.TheVariants.{NotCollection, NotFeature}

-- what a feature is made of: the id that it has of its own, its shape and its properties
pub record Parts : Type 0 where
  pub own : Option (List ℕ)
  pub shape : Option Shape
  pub props : List Prop

-- what a feature is made of, its id being its own
abbrev pub own_parts : Feature → Parts
own_parts f = record { own = Some f.id; shape = some_shape_of f.geometry; props = f.props }

-- an id: the text of a string or of a number
abbrev pub own_id : Option Tree → Option (List ℕ)
own_id (Some (str text)) = Some text
own_id (Some (num text)) = Some text
own_id value = None

-- the parts of a feature, with its shape
abbrev pub parts_with : Pairs → Option Shape → Parts
parts_with ps shape = record { own = own_id (member (codes "id") ps); shape = shape; props = properties (member (codes "properties") ps) }

-- the feature at place k: a map whose type is Feature
abbrev pub feature : ℕ → Tree → Reading Parts
feature k (map ps) = if is_text (codes "Feature") (member (codes "type") ps) then then_made (parts_with ps) (geometry k (member (codes "geometry") ps)) else Err (NotFeature k)
feature k tree = Err (NotFeature k)

-- features from place k on; the first fault decides
abbrev pub features : ℕ → Trees → Reading (List Parts)
features k none = Ok []
features k (more t ts) = then_read (λ one. then_made (λ others. one ∷ others) (features (k + 1) ts)) (feature k t)

-- the features of a list
abbrev pub listed : Option Tree → Reading (List Parts)
listed (Some (list items)) = features 0 items
listed value = Err NotCollection

-- a value, if there is one, is orderly
abbrev pub IsSomeOrderly : Option Tree → Type 0
IsSomeOrderly None = Unit {0}
IsSomeOrderly (Some tree) = IsOrderly tree

-- the features of a map whose type is FeatureCollection
abbrev pub collected : Pairs → Reading (List Parts)
collected ps = if is_text (codes "FeatureCollection") (member (codes "type") ps) then listed (member (codes "features") ps) else Err NotCollection

-- a map file: a feature, which counts as a collection of that one, or a collection of features
abbrev pub collection : Tree → Reading (List Parts)
collection (map ps) = if is_text (codes "Feature") (member (codes "type") ps) then features 0 (more (map ps) none) else collected ps
collection tree = Err NotCollection
