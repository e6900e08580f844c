-- What a map file, and one feature as text, stand for.
use Rattle.std.specs.Prelude.{◌≡◌, ◌≢◌, ℕ, ◌<◌, List, length, map, take, slice_index_or, Some, None, Result, Ok, Err}
use Rattle.std.specs.List.{AllPairs}
use Rattle.ml_json.specs.Tree.{Tree}
use Rattle.ml_json.specs.Answer.{IsText, IsNotJson, IsDeep}
use Rattle.ml_ratio.specs.declared.feature.Feature.{Feature}
use Rattle.ml_geojson.specs.Shape.{some_shape_of}
use Rattle.ml_geojson.specs.Positions.{Reading}
use Rattle.ml_geojson.specs.Fault.{Refuses}
use Rattle.ml_geojson.specs.Collection.{Parts, feature, collection}
use Rattle.ml_geojson.specs.Ids.{is_among, IsIdOf}
use Rattle.ml_geojson.specs.declared.fault.GeoFault.{GeoFault}
use Rattle.ml_geojson.specs.declared.fault.GeoFault.TheVariants.{NotJson, Deep, NoId, Memory}

-- the feature has this shape and these properties
pub record IsMadeOf (parts : Parts) (feature : Feature) : Type 0 where
  pub shape : some_shape_of feature.geometry ≡ parts.shape
  pub props : feature.props ≡ parts.props

-- the ids of features
abbrev pub ids : List Feature → List (List ℕ)
ids features = map (λ (f : Feature). f.id) features

-- no two features have the same id
abbrev pub HaveDifferentIds : List Feature → Type 0
HaveDifferentIds features = AllPairs (λ (f g : Feature). f.id ≢ g.id) features

-- one feature for each, in order, with the id that it gets behind those before it
pub record AreMadeOf (parts : List Parts) (features : List Feature) : Type 0 where
  pub one_each : length features ≡ length parts
  pub made : (k : ℕ) (p : Parts) (f : Feature) → k < length parts → IsMadeOf (slice_index_or parts k p) (slice_index_or features k f)
  pub named : (k : ℕ) (p : Parts) (f : Feature) → k < length parts → IsIdOf (is_among (take k (ids features))) k (slice_index_or parts k p).own (slice_index_or features k f).id

-- an answer gives features made of what is read, or the reading's refusal
abbrev pub AreRead : Result (List Feature) GeoFault → Reading (List Parts) → Type 0
AreRead (Ok features) reading = (parts : List Parts) × (reading ≡ Ok parts) × AreMadeOf parts features
AreRead (Err fault) reading = Refuses fault reading

-- the bytes are a map file of these features
pub record IsMap (bytes : List ℕ) (features : List Feature) : Type 0 where
  pub tree : Tree
  pub text : IsText bytes tree
  pub parts : List Parts
  pub reads : collection tree ≡ Ok parts
  pub made : AreMadeOf parts features

-- why the bytes are no map file; out of memory says nothing
abbrev pub IsMapFault : List ℕ → GeoFault → Type 0
IsMapFault bytes (NotJson at) = IsNotJson bytes at
IsMapFault bytes (Deep at) = IsDeep bytes at
IsMapFault bytes Memory = Unit {0}
IsMapFault bytes fault = (tree : Tree) × IsText bytes tree × (collection tree ≡ Err fault)

-- the answer is the same features, or out of memory
abbrev pub GivesMap : Result (List Feature) GeoFault → List Feature → Type 0
GivesMap (Ok found) features = found ≡ features
GivesMap (Err Memory) features = Unit {0}
GivesMap (Err fault) features = ⊥

-- an answer gives a feature made of what is read, with its own id; or says that it has none; or gives the reading's refusal
abbrev pub IsRead : Result Feature GeoFault → Reading Parts → Type 0
IsRead (Ok one) reading = (parts : Parts) × (reading ≡ Ok parts) × (parts.own ≡ Some one.id) × IsMadeOf parts one
IsRead (Err NoId) reading = (parts : Parts) × (reading ≡ Ok parts) × (parts.own ≡ None)
IsRead (Err fault) reading = Refuses fault reading

-- the bytes are a feature with an id, and it is this one
pub record IsFeature (bytes : List ℕ) (one : Feature) : Type 0 where
  pub tree : Tree
  pub text : IsText bytes tree
  pub parts : Parts
  pub reads : feature 0 tree ≡ Ok parts
  pub named : parts.own ≡ Some one.id
  pub made : IsMadeOf parts one

-- a feature without an id
pub record HasNoId (bytes : List ℕ) : Type 0 where
  pub tree : Tree
  pub text : IsText bytes tree
  pub parts : Parts
  pub reads : feature 0 tree ≡ Ok parts
  pub unnamed : parts.own ≡ None

-- why the bytes are no feature with an id; out of memory says nothing
abbrev pub IsFeatureFault : List ℕ → GeoFault → Type 0
IsFeatureFault bytes (NotJson at) = IsNotJson bytes at
IsFeatureFault bytes (Deep at) = IsDeep bytes at
IsFeatureFault bytes NoId = HasNoId bytes
IsFeatureFault bytes Memory = Unit {0}
IsFeatureFault bytes fault = (tree : Tree) × IsText bytes tree × (feature 0 tree ≡ Err fault)

-- the answer is the same feature, or out of memory
abbrev pub GivesFeature : Result Feature GeoFault → Feature → Type 0
GivesFeature (Ok found) one = found ≡ one
GivesFeature (Err Memory) one = Unit {0}
GivesFeature (Err fault) one = ⊥
