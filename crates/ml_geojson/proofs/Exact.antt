-- Each answer comes exactly where it is due.
use Rattle.std.proofs.Common.{◌≡◌, ◌⊎◌, inl, inr, ℕ, List, Result, Ok, Err, Some, None, refl, sym, ap, ◌∙◌, subst}
use Rattle.std.specs.Result.{IfErr}
use Rattle.std.proofs.lemmas.Option.{same_Some}
use Rattle.ml_ratio.specs.Refusal.{RefusesExactly}
use Rattle.ml_ratio.specs.declared.feature.Feature.{Feature}
use Rattle.ml_json.specs.Tree.{Tree}
use Rattle.ml_json.specs.Answer.{IsText, IsNotJson, IsDeep, GivesTree}
use Rattle.ml_json.specs.Lent.{lent_of}
use Rattle.ml_json.specs.declared.lent.Lent.{Lent}
use Rattle.ml_json.specs.declared.value.JsonFault.{JsonFault}
use Rattle.ml_json.specs.declared.value.JsonFault.TheVariants as json
use Rattle.ml_geojson.specs.Positions.{Reading}
use Rattle.ml_geojson.specs.Fault.{fault_of, Refuses}
use Rattle.ml_geojson.specs.Collection.{Parts, feature, collection}
use Rattle.ml_geojson.specs.Map.{AreRead, AreMadeOf, IsRead, IsMadeOf, IsMap, IsMapFault, IsFeature, IsFeatureFault, HasNoId, GivesMap, GivesFeature}
use Rattle.ml_geojson.specs.declared.fault.GeoFault.{GeoFault}
use Rattle.ml_geojson.specs.declared.fault.GeoFault.TheVariants.{NotJson, Deep, NotCollection, NotFeature, BadGeometry, OutOfRange, ShortRing, NoId, Memory}
use Rattle.ml_geojson.proofs.SameLemmas.{same_made, same_features}

-- the answer is this fault, or out of memory
abbrev pub IsDue : {X : Type 0} → Result X GeoFault → GeoFault → Type 0
IsDue answer fault = (answer ≡ Err fault) ⊎ (answer ≡ Err Memory)

-- the refusal of a reading that has a fault is that fault
fault_due : {X Y : Type 0} (given fault : GeoFault) (reading : Reading Y) → reading ≡ Err fault → Refuses given reading → IsDue {X = X} (Err given) fault
fault_due (NotJson at) fault reading e h = inl (ap Err (let both : Err (NotJson at) ≡ Err fault = sym h ∙ e in cc))
fault_due (Deep at) fault reading e h = inl (ap Err (let both : Err (Deep at) ≡ Err fault = sym h ∙ e in cc))
fault_due NotCollection fault reading e h = inl (ap Err (let both : Err NotCollection ≡ Err fault = sym h ∙ e in cc))
fault_due (NotFeature k) fault reading e h = inl (ap Err (let both : Err (NotFeature k) ≡ Err fault = sym h ∙ e in cc))
fault_due (BadGeometry k) fault reading e h = inl (ap Err (let both : Err (BadGeometry k) ≡ Err fault = sym h ∙ e in cc))
fault_due (OutOfRange k) fault reading e h = inl (ap Err (let both : Err (OutOfRange k) ≡ Err fault = sym h ∙ e in cc))
fault_due (ShortRing k) fault reading e h = inl (ap Err (let both : Err (ShortRing k) ≡ Err fault = sym h ∙ e in cc))
fault_due NoId fault reading e h = inl (ap Err (let both : Err NoId ≡ Err fault = sym h ∙ e in cc))
fault_due Memory fault reading e h = inr refl

-- a reading that has a value is refused only when memory runs out
value_due : {Y : Type 0} (given : GeoFault) (reading : Reading Y) (y : Y) → reading ≡ Ok y → Refuses given reading → given ≡ Memory
value_due (NotJson at) reading y e h = absurd (let both : Ok y ≡ Err (NotJson at) = sym e ∙ h in cc)
value_due (Deep at) reading y e h = absurd (let both : Ok y ≡ Err (Deep at) = sym e ∙ h in cc)
value_due NotCollection reading y e h = absurd (let both : Ok y ≡ Err NotCollection = sym e ∙ h in cc)
value_due (NotFeature k) reading y e h = absurd (let both : Ok y ≡ Err (NotFeature k) = sym e ∙ h in cc)
value_due (BadGeometry k) reading y e h = absurd (let both : Ok y ≡ Err (BadGeometry k) = sym e ∙ h in cc)
value_due (OutOfRange k) reading y e h = absurd (let both : Ok y ≡ Err (OutOfRange k) = sym e ∙ h in cc)
value_due (ShortRing k) reading y e h = absurd (let both : Ok y ≡ Err (ShortRing k) = sym e ∙ h in cc)
value_due NoId reading y e h = absurd (let both : Ok y ≡ Err NoId = sym e ∙ h in cc)
value_due Memory reading y e h = refl

map_due : (answer : Result (List Feature) GeoFault) (fault : GeoFault) (reading : Reading (List Parts)) → reading ≡ Err fault → AreRead answer reading → IsDue answer fault
map_due (Ok found) fault reading e h = absurd (let both : Ok h.0 ≡ Err fault = sym h.1 ∙ e in cc)
map_due (Err given) fault reading e h = fault_due given fault reading e h

map_given : (answer : Result (List Feature) GeoFault) (features : List Feature) (reading : Reading (List Parts)) (parts : List Parts) →
    reading ≡ Ok parts → AreMadeOf parts features → AreRead answer reading → GivesMap answer features
map_given (Ok found) features reading parts e made h =
    let same : h.0 ≡ parts = (let both : Ok h.0 ≡ Ok parts = sym h.1 ∙ e in cc) in
    same_features parts found features (subst (λ (ps : List Parts). AreMadeOf ps found) same h.2) made
map_given (Err given) features reading parts e made h = subst (λ (f : GeoFault). GivesMap (Err f) features) (sym (value_due given reading parts e h)) tt

feature_due : (answer : Result Feature GeoFault) (fault : GeoFault) (reading : Reading Parts) → reading ≡ Err fault → IsRead answer reading → IsDue answer fault
feature_due (Ok found) fault reading e h = absurd (let both : Ok h.0 ≡ Err fault = sym h.1 ∙ e in cc)
feature_due (Err (NotJson at)) fault reading e h = fault_due (NotJson at) fault reading e h
feature_due (Err (Deep at)) fault reading e h = fault_due (Deep at) fault reading e h
feature_due (Err NotCollection) fault reading e h = fault_due NotCollection fault reading e h
feature_due (Err (NotFeature k)) fault reading e h = fault_due (NotFeature k) fault reading e h
feature_due (Err (BadGeometry k)) fault reading e h = fault_due (BadGeometry k) fault reading e h
feature_due (Err (OutOfRange k)) fault reading e h = fault_due (OutOfRange k) fault reading e h
feature_due (Err (ShortRing k)) fault reading e h = fault_due (ShortRing k) fault reading e h
feature_due (Err NoId) fault reading e h = absurd (let both : Ok h.0 ≡ Err fault = sym h.1 ∙ e in cc)
feature_due (Err Memory) fault reading e h = inr refl

-- a reading with a value: the feature, or that it has no id, or out of memory
feature_given : (answer : Result Feature GeoFault) (one : Feature) (reading : Reading Parts) (parts : Parts) →
    reading ≡ Ok parts → parts.own ≡ Some one.id → IsMadeOf parts one → IsRead answer reading → GivesFeature answer one
feature_given (Ok found) one reading parts e named made h =
    let same : h.0 ≡ parts = (let both : Ok h.0 ≡ Ok parts = sym h.1 ∙ e in cc) in
    let id : found.id ≡ one.id = same_Some found.id one.id (sym h.2 ∙ ap (λ (ps : Parts). ps.own) same ∙ named) in
    same_made parts found one id (subst (λ (ps : Parts). IsMadeOf ps found) same h.3) made
feature_given (Err (NotJson at)) one reading parts e named made h = absurd (let f = value_due (NotJson at) reading parts e h in cc)
feature_given (Err (Deep at)) one reading parts e named made h = absurd (let f = value_due (Deep at) reading parts e h in cc)
feature_given (Err NotCollection) one reading parts e named made h = absurd (let f = value_due NotCollection reading parts e h in cc)
feature_given (Err (NotFeature k)) one reading parts e named made h = absurd (let f = value_due (NotFeature k) reading parts e h in cc)
feature_given (Err (BadGeometry k)) one reading parts e named made h = absurd (let f = value_due (BadGeometry k) reading parts e h in cc)
feature_given (Err (OutOfRange k)) one reading parts e named made h = absurd (let f = value_due (OutOfRange k) reading parts e h in cc)
feature_given (Err (ShortRing k)) one reading parts e named made h = absurd (let f = value_due (ShortRing k) reading parts e h in cc)
feature_given (Err NoId) one reading parts e named made h =
    let same : h.0 ≡ parts = (let both : Ok h.0 ≡ Ok parts = sym h.1 ∙ e in cc) in
    absurd (let both : None ≡ Some one.id = sym h.2 ∙ ap (λ (ps : Parts). ps.own) same ∙ named in cc)
feature_given (Err Memory) one reading parts e named made h = tt

no_id_due : (answer : Result Feature GeoFault) (reading : Reading Parts) (parts : Parts) → reading ≡ Ok parts → parts.own ≡ None → IsRead answer reading → IsDue answer NoId
no_id_due (Ok found) reading parts e unnamed h =
    let same : h.0 ≡ parts = (let both : Ok h.0 ≡ Ok parts = sym h.1 ∙ e in cc) in
    absurd (let both : Some found.id ≡ None = sym h.2 ∙ ap (λ (ps : Parts). ps.own) same ∙ unnamed in cc)
no_id_due (Err (NotJson at)) reading parts e unnamed h = absurd (let f = value_due (NotJson at) reading parts e h in cc)
no_id_due (Err (Deep at)) reading parts e unnamed h = absurd (let f = value_due (Deep at) reading parts e h in cc)
no_id_due (Err NotCollection) reading parts e unnamed h = absurd (let f = value_due NotCollection reading parts e h in cc)
no_id_due (Err (NotFeature k)) reading parts e unnamed h = absurd (let f = value_due (NotFeature k) reading parts e h in cc)
no_id_due (Err (BadGeometry k)) reading parts e unnamed h = absurd (let f = value_due (BadGeometry k) reading parts e h in cc)
no_id_due (Err (OutOfRange k)) reading parts e unnamed h = absurd (let f = value_due (OutOfRange k) reading parts e h in cc)
no_id_due (Err (ShortRing k)) reading parts e unnamed h = absurd (let f = value_due (ShortRing k) reading parts e h in cc)
no_id_due (Err NoId) reading parts e unnamed h = inl refl
no_id_due (Err Memory) reading parts e unnamed h = inr refl

-- an answer is made of the answer to its text
abbrev pub IsAnswerTo : {X Y : Type 0} → (Result X GeoFault → Reading Y → Type 0) → (Tree → Reading Y) → Result Lent JsonFault → Result X GeoFault → Type 0
IsAnswerTo IsAnswer read (Ok value) answer = IsAnswer answer (read (lent_of value))
IsAnswerTo IsAnswer read (Err fault) answer = answer ≡ Err (fault_of fault)

-- what the reader of JSON texts promises
pub record ReadsText (bytes : List ℕ) (found : Result Lent JsonFault) : Type 0 where
  pub text : (tree : Tree) → IsText bytes tree → GivesTree lent_of found tree
  pub not_json : (at : ℕ) → RefusesExactly found (json.NotJson at) json.Memory (IsNotJson bytes at)
  pub deep : (at : ℕ) → RefusesExactly found (json.Deep at) json.Memory (IsDeep bytes at)

module _ {X Y : Type 0} (IsAnswer : Result X GeoFault → Reading Y → Type 0) (read : Tree → Reading Y) (bytes : List ℕ)
    (found : Result Lent JsonFault) (reads : ReadsText bytes found) (answer : Result X GeoFault) (from : IsAnswerTo IsAnswer read found answer) where
  -- the answer to the text's fault
  text_due : (fault : JsonFault) → (found ≡ Err fault) ⊎ (found ≡ Err json.Memory) → IsDue answer (fault_of fault)
  text_due fault h = elim h [
    | inl e ↦ inl (subst (λ (f : Result Lent JsonFault). IsAnswerTo IsAnswer read f answer) e from)
    | inr e ↦ inr (subst (λ (f : Result Lent JsonFault). IsAnswerTo IsAnswer read f answer) e from)
  ]

  -- where the bytes cease to be JSON at a byte, the answer says so, or that memory is wanting
  pub not_json_due : (at : ℕ) → IsNotJson bytes at → IsDue answer (NotJson at)
  not_json_due at fact = text_due (json.NotJson at) ((reads.not_json at).1 fact)

  -- where the bytes open a 65th list or map at a byte, the answer says so, or that memory is wanting
  pub deep_due : (at : ℕ) → IsDeep bytes at → IsDue answer (Deep at)
  deep_due at fact = text_due (json.Deep at) ((reads.deep at).1 fact)

  -- what holds of an answer to the tree, and of out of memory, holds of the answer
  on_tree : (P : Result X GeoFault → Type 0) (tree : Tree) (f : Result Lent JsonFault) → GivesTree lent_of f tree →
      IsAnswerTo IsAnswer read f answer → (IsAnswer answer (read tree) → P answer) → P (Err Memory) → P answer
  on_tree P tree (Ok value) same h due memory = due (subst (λ (t : Tree). IsAnswer answer (read t)) same h)
  on_tree P tree (Err (json.NotJson at)) same h due memory = absurd same
  on_tree P tree (Err (json.Deep at)) same h due memory = absurd same
  on_tree P tree (Err json.Memory) same h due memory = subst P (sym h) memory

  -- the same of bytes that are the text of the tree
  pub by_tree : (P : Result X GeoFault → Type 0) (tree : Tree) → IsText bytes tree → (IsAnswer answer (read tree) → P answer) → P (Err Memory) → P answer
  by_tree P tree text due memory = on_tree P tree found (reads.text tree text) from due memory

-- a refusal that is right wherever it comes, and comes where it is due
exactly : {X : Type 0} (answer : Result X GeoFault) (Fact : GeoFault → Type 0) (fault : GeoFault) →
    IfErr answer Fact → (Fact fault → IsDue answer fault) → RefusesExactly answer fault Memory (Fact fault)
exactly answer Fact fault cause due = ((λ e. subst (λ (a : Result _ GeoFault). IfErr a Fact) e cause), due)

module _ (bytes : List ℕ) (found : Result Lent JsonFault) (reads : ReadsText bytes found) (answer : Result (List Feature) GeoFault)
    (from : IsAnswerTo AreRead collection found answer) (cause : IfErr answer (IsMapFault bytes)) where
  of_tree : (fault : GeoFault) → ((tree : Tree) × IsText bytes tree × (collection tree ≡ Err fault)) → IsDue answer fault
  of_tree fault fact = by_tree AreRead collection bytes found reads answer from (λ a. IsDue a fault) fact.0 fact.1 (λ h. map_due answer fault (collection fact.0) fact.2 h) (inr refl)

  -- bytes that are a map file give it
  pub map_reads : (features : List Feature) → IsMap bytes features → GivesMap answer features
  map_reads features is = by_tree AreRead collection bytes found reads answer from (λ a. GivesMap a features) is.tree is.text
      (λ h. map_given answer features (collection is.tree) is.parts is.reads is.made h) tt

  -- a map file is refused as no JSON at a byte exactly where its bytes cease to be JSON there
  pub map_not_json : (at : ℕ) → RefusesExactly answer (NotJson at) Memory (IsNotJson bytes at)
  map_not_json at = exactly answer (IsMapFault bytes) (NotJson at) cause (not_json_due AreRead collection bytes found reads answer from at)

  -- a map file is refused as too deep at a byte exactly where it opens a 65th list or map there
  pub map_deep : (at : ℕ) → RefusesExactly answer (Deep at) Memory (IsDeep bytes at)
  map_deep at = exactly answer (IsMapFault bytes) (Deep at) cause (deep_due AreRead collection bytes found reads answer from at)

  -- a map file is refused as no collection exactly where it is neither a collection of features nor a feature
  pub map_not_collection : RefusesExactly answer NotCollection Memory (IsMapFault bytes NotCollection)
  map_not_collection = exactly answer (IsMapFault bytes) NotCollection cause (of_tree NotCollection)

  -- a map file is refused for item k as no feature exactly where this is its first fault
  pub map_not_feature : (k : ℕ) → RefusesExactly answer (NotFeature k) Memory (IsMapFault bytes (NotFeature k))
  map_not_feature k = exactly answer (IsMapFault bytes) (NotFeature k) cause (of_tree (NotFeature k))

  -- a map file is refused for the geometry of feature k exactly where this is its first fault
  pub map_bad_geometry : (k : ℕ) → RefusesExactly answer (BadGeometry k) Memory (IsMapFault bytes (BadGeometry k))
  map_bad_geometry k = exactly answer (IsMapFault bytes) (BadGeometry k) cause (of_tree (BadGeometry k))

  -- a map file is refused for a position of feature k outside of the world exactly where this is its first fault
  pub map_out_of_range : (k : ℕ) → RefusesExactly answer (OutOfRange k) Memory (IsMapFault bytes (OutOfRange k))
  map_out_of_range k = exactly answer (IsMapFault bytes) (OutOfRange k) cause (of_tree (OutOfRange k))

  -- a map file is refused for a short ring of feature k exactly where this is its first fault
  pub map_short_ring : (k : ℕ) → RefusesExactly answer (ShortRing k) Memory (IsMapFault bytes (ShortRing k))
  map_short_ring k = exactly answer (IsMapFault bytes) (ShortRing k) cause (of_tree (ShortRing k))

module _ (bytes : List ℕ) (found : Result Lent JsonFault) (reads : ReadsText bytes found) (answer : Result Feature GeoFault)
    (from : IsAnswerTo IsRead (feature 0) found answer) (cause : IfErr answer (IsFeatureFault bytes)) where
  of_tree_1 : (fault : GeoFault) → ((tree : Tree) × IsText bytes tree × (feature 0 tree ≡ Err fault)) → IsDue answer fault
  of_tree_1 fault fact = by_tree IsRead (feature 0) bytes found reads answer from (λ a. IsDue a fault) fact.0 fact.1 (λ h. feature_due answer fault (feature 0 fact.0) fact.2 h) (inr refl)

  of_no_id : HasNoId bytes → IsDue answer NoId
  of_no_id fact = by_tree IsRead (feature 0) bytes found reads answer from (λ a. IsDue a NoId) fact.tree fact.text
      (λ h. no_id_due answer (feature 0 fact.tree) fact.parts fact.reads fact.unnamed h) (inr refl)

  -- bytes that are a feature with an id give it
  pub feature_reads : (one : Feature) → IsFeature bytes one → GivesFeature answer one
  feature_reads one is = by_tree IsRead (feature 0) bytes found reads answer from (λ a. GivesFeature a one) is.tree is.text
      (λ h. feature_given answer one (feature 0 is.tree) is.parts is.reads is.named is.made h) tt

  -- the text of one feature is refused as no JSON at a byte exactly where its bytes cease to be JSON there
  pub feature_not_json : (at : ℕ) → RefusesExactly answer (NotJson at) Memory (IsNotJson bytes at)
  feature_not_json at = exactly answer (IsFeatureFault bytes) (NotJson at) cause (not_json_due IsRead (feature 0) bytes found reads answer from at)

  -- the text of one feature is refused as too deep at a byte exactly where it opens a 65th list or map there
  pub feature_deep : (at : ℕ) → RefusesExactly answer (Deep at) Memory (IsDeep bytes at)
  feature_deep at = exactly answer (IsFeatureFault bytes) (Deep at) cause (deep_due IsRead (feature 0) bytes found reads answer from at)

  -- the text of one feature is refused as no feature exactly where it is none
  pub feature_not_feature : (k : ℕ) → RefusesExactly answer (NotFeature k) Memory (IsFeatureFault bytes (NotFeature k))
  feature_not_feature k = exactly answer (IsFeatureFault bytes) (NotFeature k) cause (of_tree_1 (NotFeature k))

  -- the text of one feature is refused for its geometry exactly where this is its first fault
  pub feature_bad_geometry : (k : ℕ) → RefusesExactly answer (BadGeometry k) Memory (IsFeatureFault bytes (BadGeometry k))
  feature_bad_geometry k = exactly answer (IsFeatureFault bytes) (BadGeometry k) cause (of_tree_1 (BadGeometry k))

  -- the text of one feature is refused for a position outside of the world exactly where this is its first fault
  pub feature_out_of_range : (k : ℕ) → RefusesExactly answer (OutOfRange k) Memory (IsFeatureFault bytes (OutOfRange k))
  feature_out_of_range k = exactly answer (IsFeatureFault bytes) (OutOfRange k) cause (of_tree_1 (OutOfRange k))

  -- the text of one feature is refused for a short ring exactly where this is its first fault
  pub feature_short_ring : (k : ℕ) → RefusesExactly answer (ShortRing k) Memory (IsFeatureFault bytes (ShortRing k))
  feature_short_ring k = exactly answer (IsFeatureFault bytes) (ShortRing k) cause (of_tree_1 (ShortRing k))

  -- the text of one feature is refused for want of an id exactly where it is a feature without one
  pub feature_no_id : RefusesExactly answer NoId Memory (HasNoId bytes)
  feature_no_id = exactly answer (IsFeatureFault bytes) NoId cause of_no_id
