-- Over the laws of JSON texts: bytes that are accepted are not refused, and are read in one way.
use Rattle.std.proofs.Common.{◌≡◌, ℕ, List, Ok, Err, Some, None, refl, sym, ap, ◌∙◌, subst}
use Rattle.ml_ratio.specs.declared.feature.Feature.{Feature}
use Rattle.ml_json.specs.Tree.{Tree}
use Rattle.ml_json.specs.Grammar.{Reads}
use Rattle.ml_json.specs.Answer.{IsText, Refuses}
use Rattle.ml_json.specs.declared.value.JsonFault.{JsonFault}
use Rattle.ml_json.specs.declared.value.JsonFault.TheVariants as json
use Rattle.ml_geojson.specs.Collection.{Parts, feature, collection}
use Rattle.ml_geojson.specs.Map.{AreMadeOf, IsMadeOf, IsMap, IsMapFault, IsFeature, IsFeatureFault}
use Rattle.ml_geojson.specs.declared.fault.GeoFault.{GeoFault}
use Rattle.ml_geojson.specs.declared.fault.GeoFault.TheVariants.{NotJson, Deep, NotCollection, NotFeature, BadGeometry, OutOfRange, ShortRing, NoId, Memory}
use Rattle.ml_geojson.proofs.SameLemmas.{same_made, same_features}
use Rattle.std.proofs.lemmas.Option.{same_Some}

module _ (bytes : List ℕ) (one_tree : (v w : Tree) → Reads bytes v → Reads bytes w → v ≡ w) where
  -- a map file has the same features only
  pub one_map : (features others : List Feature) → IsMap bytes features → IsMap bytes others → features ≡ others
  one_map features others a b =
      let tree : a.tree ≡ b.tree = one_tree a.tree b.tree a.text.reads b.text.reads in
      let read : collection b.tree ≡ Ok a.parts = ap collection (sym tree) ∙ a.reads in
      let parts : b.parts ≡ a.parts = (let both : Ok b.parts ≡ Ok a.parts = sym b.reads ∙ read in cc) in
      same_features a.parts features others a.made (subst (λ (ps : List Parts). AreMadeOf ps others) parts b.made)

  -- a feature is one
  pub one_feature : (one other : Feature) → IsFeature bytes one → IsFeature bytes other → one ≡ other
  one_feature one other a b =
      let tree : a.tree ≡ b.tree = one_tree a.tree b.tree a.text.reads b.text.reads in
      let read : feature 0 b.tree ≡ Ok a.parts = ap (feature 0) (sym tree) ∙ a.reads in
      let parts : b.parts ≡ a.parts = (let both : Ok b.parts ≡ Ok a.parts = sym b.reads ∙ read in cc) in
      let id : one.id ≡ other.id = same_Some one.id other.id (sym a.named ∙ ap (λ (ps : Parts). ps.own) (sym parts) ∙ b.named) in
      same_made a.parts one other id a.made (subst (λ (ps : Parts). IsMadeOf ps other) parts b.made)

  no_map_fault : (features : List Feature) (fault : GeoFault) → IsMap bytes features → (tree : Tree) → IsText bytes tree → (collection tree ≡ Err fault) → ⊥
  no_map_fault features fault accepted tree text faulty =
      let same : accepted.tree ≡ tree = one_tree accepted.tree tree accepted.text.reads text.reads in
      let read : collection tree ≡ Ok accepted.parts = ap collection (sym same) ∙ accepted.reads in
      absurd (let both : Ok accepted.parts ≡ Err fault = sym read ∙ faulty in cc)

  no_feature_fault : (one : Feature) (fault : GeoFault) → IsFeature bytes one → (tree : Tree) → IsText bytes tree → (feature 0 tree ≡ Err fault) → ⊥
  no_feature_fault one fault accepted tree text faulty =
      let same : accepted.tree ≡ tree = one_tree accepted.tree tree accepted.text.reads text.reads in
      let read : feature 0 tree ≡ Ok accepted.parts = ap (feature 0) (sym same) ∙ accepted.reads in
      absurd (let both : Ok accepted.parts ≡ Err fault = sym read ∙ faulty in cc)

  module _ (text_or_fault : (tree : Tree) (fault : JsonFault) → IsText bytes tree → Refuses fault bytes → fault ≡ json.Memory) where
    -- a map file is refused only when memory runs out
    pub map_or_fault : (features : List Feature) (fault : GeoFault) → IsMap bytes features → IsMapFault bytes fault → fault ≡ Memory
    map_or_fault features (NotJson at) accepted refused = absurd (let e = text_or_fault accepted.tree (json.NotJson at) accepted.text refused in cc)
    map_or_fault features (Deep at) accepted refused = absurd (let e = text_or_fault accepted.tree (json.Deep at) accepted.text refused in cc)
    map_or_fault features NotCollection accepted refused = absurd (no_map_fault features NotCollection accepted refused.0 refused.1 refused.2)
    map_or_fault features (NotFeature k) accepted refused = absurd (no_map_fault features (NotFeature k) accepted refused.0 refused.1 refused.2)
    map_or_fault features (BadGeometry k) accepted refused = absurd (no_map_fault features (BadGeometry k) accepted refused.0 refused.1 refused.2)
    map_or_fault features (OutOfRange k) accepted refused = absurd (no_map_fault features (OutOfRange k) accepted refused.0 refused.1 refused.2)
    map_or_fault features (ShortRing k) accepted refused = absurd (no_map_fault features (ShortRing k) accepted refused.0 refused.1 refused.2)
    map_or_fault features NoId accepted refused = absurd (no_map_fault features NoId accepted refused.0 refused.1 refused.2)
    map_or_fault features Memory accepted refused = refl

    -- a feature with an id is refused only when memory runs out
    pub feature_or_fault : (one : Feature) (fault : GeoFault) → IsFeature bytes one → IsFeatureFault bytes fault → fault ≡ Memory
    feature_or_fault one (NotJson at) accepted refused = absurd (let e = text_or_fault accepted.tree (json.NotJson at) accepted.text refused in cc)
    feature_or_fault one (Deep at) accepted refused = absurd (let e = text_or_fault accepted.tree (json.Deep at) accepted.text refused in cc)
    feature_or_fault one NotCollection accepted refused = absurd (no_feature_fault one NotCollection accepted refused.0 refused.1 refused.2)
    feature_or_fault one (NotFeature k) accepted refused = absurd (no_feature_fault one (NotFeature k) accepted refused.0 refused.1 refused.2)
    feature_or_fault one (BadGeometry k) accepted refused = absurd (no_feature_fault one (BadGeometry k) accepted refused.0 refused.1 refused.2)
    feature_or_fault one (OutOfRange k) accepted refused = absurd (no_feature_fault one (OutOfRange k) accepted refused.0 refused.1 refused.2)
    feature_or_fault one (ShortRing k) accepted refused = absurd (no_feature_fault one (ShortRing k) accepted refused.0 refused.1 refused.2)
    feature_or_fault one NoId accepted refused =
        let tree : accepted.tree ≡ refused.tree = one_tree accepted.tree refused.tree accepted.text.reads refused.text.reads in
        let read : feature 0 refused.tree ≡ Ok accepted.parts = ap (feature 0) (sym tree) ∙ accepted.reads in
        let parts : refused.parts ≡ accepted.parts = (let both : Ok refused.parts ≡ Ok accepted.parts = sym refused.reads ∙ read in cc) in
        let both : Some one.id ≡ None = sym accepted.named ∙ ap (λ (ps : Parts). ps.own) (sym parts) ∙ refused.unnamed in
        absurd cc
    feature_or_fault one Memory accepted refused = refl
