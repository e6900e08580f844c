-- Over the laws of JSON texts: one thing is wrong with bytes that are refused.
use Rattle.std.proofs.Common.{◌≡◌, ◌≢◌, ℕ, List, Option, Some, None, Ok, Err, ◌⊎◌, inl, inr, refl, sym, ap, ◌∙◌}
use Rattle.std.proofs.lemmas.Option.{same_Some}
use Rattle.ml_json.specs.Tree.{Tree}
use Rattle.ml_json.specs.Grammar.{Reads}
use Rattle.ml_json.specs.Answer.{IsText, IsNotJson, IsDeep, Refuses}
use Rattle.ml_json.specs.declared.value.JsonFault.{JsonFault}
use Rattle.ml_json.specs.declared.value.JsonFault.TheVariants as json
use Rattle.ml_geojson.specs.Collection.{Parts, feature, collection}
use Rattle.ml_geojson.specs.Map.{IsMapFault, IsFeatureFault}
use Rattle.ml_geojson.specs.Positions.{Reading}
use Rattle.ml_geojson.specs.declared.fault.GeoFault.{GeoFault}
use Rattle.ml_geojson.specs.declared.fault.GeoFault.TheVariants.{NotJson, Deep, NotCollection, NotFeature, BadGeometry, OutOfRange, ShortRing, NoId, Memory}

-- what is wrong with a reading
fault_in : {X : Type 0} → Reading X → Option GeoFault
fault_in (Ok x) = None
fault_in (Err fault) = Some fault

unnamed : Option (List ℕ) → Option GeoFault
unnamed None = Some NoId
unnamed (Some id) = None

-- the same of a feature that is to have an id
fault_of_own : Reading Parts → Option GeoFault
fault_of_own (Ok parts) = unnamed parts.own
fault_of_own (Err fault) = Some fault

-- a fault of the text, or of its tree
abbrev Told : (Tree → Option GeoFault) → List ℕ → GeoFault → Type 0
Told judge bytes fault =
    ((at : ℕ) × (fault ≡ NotJson at) × IsNotJson bytes at)
    ⊎ (((at : ℕ) × (fault ≡ Deep at) × IsDeep bytes at)
    ⊎ ((tree : Tree) × IsText bytes tree × (judge tree ≡ Some fault)))

of_map : (bytes : List ℕ) (fault : GeoFault) → fault ≢ Memory → IsMapFault bytes fault → Told (λ tree. fault_in (collection tree)) bytes fault
unfolding fault_in
of_map bytes (NotJson at) some h = inl (at, refl, h)
of_map bytes (Deep at) some h = inr (inl (at, refl, h))
of_map bytes NotCollection some h = inr (inr (h.0, h.1, ap fault_in h.2))
of_map bytes (NotFeature k) some h = inr (inr (h.0, h.1, ap fault_in h.2))
of_map bytes (BadGeometry k) some h = inr (inr (h.0, h.1, ap fault_in h.2))
of_map bytes (OutOfRange k) some h = inr (inr (h.0, h.1, ap fault_in h.2))
of_map bytes (ShortRing k) some h = inr (inr (h.0, h.1, ap fault_in h.2))
of_map bytes NoId some h = inr (inr (h.0, h.1, ap fault_in h.2))
of_map bytes Memory some h = absurd (some refl)

of_feature : (bytes : List ℕ) (fault : GeoFault) → fault ≢ Memory → IsFeatureFault bytes fault → Told (λ tree. fault_of_own (feature 0 tree)) bytes fault
unfolding fault_of_own unnamed
of_feature bytes (NotJson at) some h = inl (at, refl, h)
of_feature bytes (Deep at) some h = inr (inl (at, refl, h))
of_feature bytes NotCollection some h = inr (inr (h.0, h.1, ap fault_of_own h.2))
of_feature bytes (NotFeature k) some h = inr (inr (h.0, h.1, ap fault_of_own h.2))
of_feature bytes (BadGeometry k) some h = inr (inr (h.0, h.1, ap fault_of_own h.2))
of_feature bytes (OutOfRange k) some h = inr (inr (h.0, h.1, ap fault_of_own h.2))
of_feature bytes (ShortRing k) some h = inr (inr (h.0, h.1, ap fault_of_own h.2))
of_feature bytes NoId some h = inr (inr (h.tree, h.text, ap fault_of_own h.reads ∙ ap unnamed h.unnamed))
of_feature bytes Memory some h = absurd (some refl)

module _ (bytes : List ℕ) (one_tree : (v w : Tree) → Reads bytes v → Reads bytes w → v ≡ w)
    (text_or_fault : (tree : Tree) (fault : JsonFault) → IsText bytes tree → Refuses fault bytes → fault ≡ json.Memory)
    (one_json : (one other : JsonFault) → one ≢ json.Memory → other ≢ json.Memory → Refuses one bytes → Refuses other bytes → one ≡ other) where
  text_not : (tree : Tree) (at : ℕ) → IsText bytes tree → IsNotJson bytes at → ⊥
  text_not tree at text fault = (let e = text_or_fault tree (json.NotJson at) text fault in absurd cc)

  text_not_deep : (tree : Tree) (at : ℕ) → IsText bytes tree → IsDeep bytes at → ⊥
  text_not_deep tree at text fault = (let e = text_or_fault tree (json.Deep at) text fault in absurd cc)

  not_both : (a b : ℕ) → IsNotJson bytes a → IsDeep bytes b → ⊥
  not_both a b p q = (let e = one_json (json.NotJson a) (json.Deep b) (λ e. absurd cc) (λ e. absurd cc) p q in absurd cc)

  one_end : (a b : ℕ) → IsNotJson bytes a → IsNotJson bytes b → a ≡ b
  one_end a b p q = (let e = one_json (json.NotJson a) (json.NotJson b) (λ e. absurd cc) (λ e. absurd cc) p q in cc)

  one_depth : (a b : ℕ) → IsDeep bytes a → IsDeep bytes b → a ≡ b
  one_depth a b p q = (let e = one_json (json.Deep a) (json.Deep b) (λ e. absurd cc) (λ e. absurd cc) p q in cc)

  one_told : (judge : Tree → Option GeoFault) (one other : GeoFault) → Told judge bytes one → Told judge bytes other → one ≡ other
  one_told judge one other (inl p) (inl q) = p.1 ∙ ap NotJson (one_end p.0 q.0 p.2 q.2) ∙ sym q.1
  one_told judge one other (inl p) (inr (inl q)) = absurd (not_both p.0 q.0 p.2 q.2)
  one_told judge one other (inl p) (inr (inr q)) = absurd (text_not q.0 p.0 q.1 p.2)
  one_told judge one other (inr (inl p)) (inl q) = absurd (not_both q.0 p.0 q.2 p.2)
  one_told judge one other (inr (inl p)) (inr (inl q)) = p.1 ∙ ap Deep (one_depth p.0 q.0 p.2 q.2) ∙ sym q.1
  one_told judge one other (inr (inl p)) (inr (inr q)) = absurd (text_not_deep q.0 p.0 q.1 p.2)
  one_told judge one other (inr (inr p)) (inl q) = absurd (text_not p.0 q.0 p.1 q.2)
  one_told judge one other (inr (inr p)) (inr (inl q)) = absurd (text_not_deep p.0 q.0 p.1 q.2)
  one_told judge one other (inr (inr p)) (inr (inr q)) = same_Some one other (sym p.2 ∙ ap judge (one_tree p.0 q.0 p.1.reads q.1.reads) ∙ q.2)

  -- one thing is wrong with a map file
  pub one_map_fault : (one other : GeoFault) → one ≢ Memory → other ≢ Memory → IsMapFault bytes one → IsMapFault bytes other → one ≡ other
  one_map_fault one other some another p q = one_told (λ tree. fault_in (collection tree)) one other (of_map bytes one some p) (of_map bytes other another q)

  -- and one with a feature
  pub one_feature_fault : (one other : GeoFault) → one ≢ Memory → other ≢ Memory → IsFeatureFault bytes one → IsFeatureFault bytes other → one ≡ other
  one_feature_fault one other some another p q = one_told (λ tree. fault_of_own (feature 0 tree)) one other (of_feature bytes one some p) (of_feature bytes other another q)
