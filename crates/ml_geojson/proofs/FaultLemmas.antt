-- Refusals of the parts of a text as refusals of its bytes.
use Rattle.std.proofs.Common.{◌≡◌, ℕ, List, Result, Ok, Err, subst}
use Rattle.std.specs.Result.{IfErr}
use Rattle.ml_ratio.specs.declared.feature.Feature.{Feature}
use Rattle.ml_json.specs.Tree.{Tree}
use Rattle.ml_ratio.specs.Refusal.{RefusesExactly}
use Rattle.ml_json.specs.Answer.{IsText, IsNotJson, IsDeep}
use Rattle.ml_json.specs.declared.lent.Lent.{Lent}
use Rattle.ml_json.specs.declared.value.JsonFault.{JsonFault}
use Rattle.ml_json.specs.declared.value.JsonFault.TheVariants as json
use Rattle.ml_geojson.specs.Fault.{fault_of, Refuses}
use Rattle.ml_geojson.specs.Collection.{feature, collection}
use Rattle.ml_geojson.specs.Map.{AreRead, IsRead, IsMapFault, IsFeatureFault}
use Rattle.ml_geojson.specs.declared.fault.GeoFault.{GeoFault}
use Rattle.ml_geojson.specs.declared.fault.GeoFault.TheVariants.{NotJson, Deep, NotCollection, NotFeature, BadGeometry, OutOfRange, ShortRing, NoId, Memory}
use Rattle.ml_geojson.proofs.Kept.{Kept, KeptMap, kept_feature, kept_collection}

-- the refusal of a feature is that of its naming
pub read_refused : (tree : Tree) (fault : GeoFault) → Refuses fault (feature 0 tree) → IsRead (Err fault) (feature 0 tree)
read_refused tree (NotJson at) h = h
read_refused tree (Deep at) h = h
read_refused tree NotCollection h = h
read_refused tree (NotFeature k) h = h
read_refused tree (BadGeometry k) h = h
read_refused tree (OutOfRange k) h = h
read_refused tree (ShortRing k) h = h
read_refused tree NoId h = absurd (subst Kept h (kept_feature 0 tree))
read_refused tree Memory h = tt

module _ (bytes : List ℕ) (tree : Tree) (text : IsText bytes tree) where
  -- why a tree is refused as one feature is why its bytes are no feature with an id
  pub feature_refused : (fault : GeoFault) → IsRead (Err fault) (feature 0 tree) → IsFeatureFault bytes fault
  feature_refused (NotJson at) h = absurd (subst Kept h (kept_feature 0 tree))
  feature_refused (Deep at) h = absurd (subst Kept h (kept_feature 0 tree))
  feature_refused NotCollection h = (tree, text, h)
  feature_refused (NotFeature k) h = (tree, text, h)
  feature_refused (BadGeometry k) h = (tree, text, h)
  feature_refused (OutOfRange k) h = (tree, text, h)
  feature_refused (ShortRing k) h = (tree, text, h)
  feature_refused NoId h = record { tree = tree; text = text; parts = h.0; reads = h.1; unnamed = h.2 }
  feature_refused Memory h = tt

  -- why a tree is refused as a map file is why its bytes are none
  pub map_refused : (fault : GeoFault) → Refuses fault (collection tree) → IsMapFault bytes fault
  map_refused (NotJson at) h = absurd (subst KeptMap h (kept_collection tree))
  map_refused (Deep at) h = absurd (subst KeptMap h (kept_collection tree))
  map_refused NotCollection h = (tree, text, h)
  map_refused (NotFeature k) h = (tree, text, h)
  map_refused (BadGeometry k) h = (tree, text, h)
  map_refused (OutOfRange k) h = (tree, text, h)
  map_refused (ShortRing k) h = (tree, text, h)
  map_refused NoId h = (tree, text, h)
  map_refused Memory h = tt

module _ (bytes : List ℕ) (tree : Tree) (text : IsText bytes tree) where
  -- an answer's refusal
  pub map_answered : (answer : Result (List Feature) GeoFault) → AreRead answer (collection tree) → IfErr answer (IsMapFault bytes)
  map_answered (Ok features) h = tt
  map_answered (Err fault) h = map_refused bytes tree text fault h

  -- an answer's refusal, where one feature is asked for, is why the bytes are none with an id
  pub feature_answered : (answer : Result Feature GeoFault) → IsRead answer (feature 0 tree) → IfErr answer (IsFeatureFault bytes)
  feature_answered (Ok one) h = tt
  feature_answered (Err fault) h = feature_refused bytes tree text fault h

-- the refusal of the text
module _ (bytes : List ℕ) (result : Result Lent JsonFault) (not_json : (at : ℕ) → RefusesExactly result (json.NotJson at) json.Memory (IsNotJson bytes at))
    (deep : (at : ℕ) → RefusesExactly result (json.Deep at) json.Memory (IsDeep bytes at)) where
  -- why the text is no JSON, or is too deep, is why the bytes are no map file
  pub text_refused_map : (fault : JsonFault) → result ≡ Err fault → IsMapFault bytes (fault_of fault)
  text_refused_map (json.NotJson at) e = (not_json at).0 e
  text_refused_map (json.Deep at) e = (deep at).0 e
  text_refused_map json.Memory e = tt

  -- why the text is no JSON, or is too deep, is why the bytes are no feature with an id
  pub text_refused_feature : (fault : JsonFault) → result ≡ Err fault → IsFeatureFault bytes (fault_of fault)
  text_refused_feature (json.NotJson at) e = (not_json at).0 e
  text_refused_feature (json.Deep at) e = (deep at).0 e
  text_refused_feature json.Memory e = tt
