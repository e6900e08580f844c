-- Features read one after another.
use Rattle.std.proofs.Common.{◌≡◌, ℕ, zero, suc, ◌+◌, ◌<◌, ◌≤◌, List, [], ◌∷◌, ◌++◌, length, get_or, take, drop, Bool, true, false, ◌||◌}
use Rattle.std.proofs.Common.{cond, Option, Some, None, Ok, Err, refl, sym, ap, ◌∙◌, arith, inl, inr, length-append, append_assoc}
use Rattle.std.specs.HashSet.{HashSet, Updates}
use Rattle.std.specs.Str.{bytes_eq}
use Rattle.std.proofs.Math.ListN.{get_or-append}
use Rattle.std.proofs.Math.Seq.{drop-cons, take-append_seam}
use Rattle.std.proofs.lemmas.Bool.{cases_lt}
use Rattle.std.proofs.lemmas.Cmp.{nat_list_eq_equiv}
use Rattle.std.proofs.lemmas.List.{get_or_push, map-append, length-map, take-append-le}
use Rattle.std.proofs.lemmas.List.Folds.{list_any-append}
use Rattle.ml_json.specs.Canonical.{IsOrderly, AllOrderly}
use Rattle.ml_json.specs.Lent.{lent_of, lents_view}
use Rattle.ml_json.specs.declared.lent.Lent.{Lent}
use Rattle.ml_json.specs.Tree.{Tree, Trees, more}
use Rattle.ml_ratio.specs.declared.feature.Feature.{Feature}
use Rattle.ml_geojson.specs.Positions.{Reading, then_made}
use Rattle.ml_geojson.specs.Collection.{Parts, feature, features}
use Rattle.ml_geojson.specs.Ids.{is_among, marked, IsFresh, IsIdOf}
use Rattle.ml_geojson.specs.Taken.{is_taken, HasIds, Takes}
use Rattle.ml_geojson.specs.Map.{ids, IsMadeOf, AreMadeOf}
use Rattle.ml_geojson.specs.Draft.{IsAdded}
use Rattle.ml_geojson.specs.declared.fault.GeoFault.{GeoFault}
use Rattle.ml_geojson.proofs.EachLemmas.{behind, behind_none}

behind_more : (ps : List Parts) (p : Parts) (reading : Reading (List Parts)) → behind ps (then_made (λ qs. p ∷ qs) reading) ≡ behind (ps ++ p ∷ []) reading
behind_more ps p (Ok qs) = ap Ok (sym (append_assoc ps (p ∷ []) qs))
behind_more ps p (Err fault) = refl

module _ (k : ℕ) (t : Tree) (ts : Trees) (ps : List Parts) where
  -- a further feature
  pub features_next : (p : Parts) → feature k t ≡ Ok p → behind ps (features k (more t ts)) ≡ behind (ps ++ p ∷ []) (features (k + 1) ts)
  features_next p e = rw e (behind_more ps p (features (k + 1) ts))

  -- a fault
  pub features_stop : (fault : GeoFault) → feature k t ≡ Err fault → behind ps (features k (more t ts)) ≡ Err fault
  features_stop fault e = rw e refl

-- what a set takes by an insertion
pub inserted : {S : Type 0} (old new : HashSet (List ℕ) S) (id : List ℕ) → Updates bytes_eq old new id true → Takes old new id
inserted old new id updates text =
    updates.0 text ∙ ap (λ (t : Bool). cond t true (is_taken old text)) (nat_list_eq_equiv.symm id text) ∙ either (bytes_eq text id) (is_taken old text)
  where
    either : (a b : Bool) → cond a true b ≡ (a || b)
    either true b = refl
    either false b = refl

-- an id that a set takes is added to the ids
pub has_ids_more : {S : Type 0} (old new : HashSet (List ℕ) S) (texts : List (List ℕ)) (id : List ℕ) → HasIds texts old → Takes old new id → HasIds (texts ++ id ∷ []) new
has_ids_more old new texts id has takes text =
    takes text ∙ ap (λ (t : Bool). bytes_eq text id || t) (has text) ∙ turned (bytes_eq text id) (is_among texts text) ∙ sym (list_any-append (bytes_eq text) texts (id ∷ []))
  where
    turned : (a b : Bool) → (a || b) ≡ (b || (a || false))
    turned true true = refl
    turned true false = refl
    turned false true = refl
    turned false false = refl

-- an empty set has the ids of no features
pub no_ids : {S : Type 0} (set : HashSet (List ℕ) S) → set.keys ≡ [] → HasIds [] set
no_ids set e text = rw e refl

-- of no parts no features are made
pub made_none : AreMadeOf [] []
made_none = record { one_each = refl; made = λ k p f lt. absurd (omega arith); named = λ k p f lt. absurd (omega arith) }

module _ (ps : List Parts) (p : Parts) (old : List Feature) (f : Feature) (are : AreMadeOf ps old) where
  ids_more : ids (old ++ f ∷ []) ≡ ids old ++ f.id ∷ []
  ids_more = map-append (λ (g : Feature). g.id) old (f ∷ [])

  front : (k : ℕ) → k ≤ length old → take k (ids (old ++ f ∷ [])) ≡ take k (ids old)
  front k h = ap (take k) ids_more ∙ take-append-le k (ids old) (f.id ∷ []) (let n = length-map old (λ (g : Feature). g.id) in omega arith)

  front_all : (k : ℕ) → length old ≡ k → take k (ids (old ++ f ∷ [])) ≡ ids old
  front_all k e =
      let n : length (ids old) ≡ k = length-map old (λ (g : Feature). g.id) ∙ e in
      ap (take k) ids_more ∙ ap (λ (m : ℕ). take m (ids old ++ f.id ∷ [])) (sym n) ∙ take-append_seam (ids old) (f.id ∷ [])

  made_behind : IsMadeOf p f → IsIdOf (is_among (ids old)) (length old) p.own f.id → AreMadeOf (ps ++ p ∷ []) (old ++ f ∷ [])
  made_behind made named = record {
    one_each = (let a = length-append ps (p ∷ []) in let b = length-append old (f ∷ []) in let c = are.one_each in omega arith);
    made = λ k q g lt.
        elim (cases_lt k (length ps)) [
          | inl less ↦ (let c = are.one_each in rw (get_or-append ps (p ∷ []) q k less, get_or-append old (f ∷ []) g k (omega arith)) (are.made k q g less))
          | inr above ↦ (let c = are.one_each in let a = length-append ps (p ∷ []) in rw (get_or_push ps p q k (omega arith), get_or_push old f g k (omega arith)) made)
        ];
    named = λ k q g lt.
        elim (cases_lt k (length ps)) [
          | inl less ↦ (let c = are.one_each in rw (get_or-append ps (p ∷ []) q k less, get_or-append old (f ∷ []) g k (omega arith), front k (omega arith)) (are.named k q g less))
          | inr above ↦ (
              let c = are.one_each in let a = length-append ps (p ∷ []) in let here : length old ≡ k = omega arith in
              rw (get_or_push ps p q k (omega arith), get_or_push old f g k here, front_all k here) (rw here at named))
        ];
  }

-- one feature more
pub made_more : (ps : List Parts) (p : Parts) (old new : List Feature) → AreMadeOf ps old → IsAdded old new p → AreMadeOf (ps ++ p ∷ []) new
made_more ps p old new are added = rw added.behind (made_behind ps p old added.feature are added.made added.named)

-- the same ids are taken
module _ (taken other : List ℕ → Bool) (same : (text : List ℕ) → taken text ≡ other text) (k : ℕ) (id : List ℕ) where
  fresh_by : IsFresh taken k id → IsFresh other k id
  fresh_by fresh = record {
    signs = fresh.signs;
    written = fresh.written;
    new = sym (same id) ∙ fresh.new;
    fewest = λ n h. sym (same (marked n k)) ∙ fresh.fewest n h;
  }

  -- a feature that gets an id where some ids are taken gets it where just the same ones are
  pub id_by : (own : Option (List ℕ)) → IsIdOf taken k own id → IsIdOf other k own id
  id_by None fresh = fresh_by fresh
  id_by (Some own) h = record { new = λ e. h.new (same own ∙ e); known = λ e. fresh_by (h.known (same own ∙ e)) }

-- an item of orderly items
pub orderly_at : (items : List Lent) (k : ℕ) (item : Lent) → AllOrderly (lents_view items) → k < length items → get_or items k item ≡ item → IsOrderly (lent_of item)
orderly_at [] k item all lt e = absurd (omega arith)
orderly_at (x ∷ items) zero item all lt e = rw (sym e) all.0
orderly_at (x ∷ items) (suc k) item all lt e = orderly_at items k item all.1 (omega arith) e

-- the features read so far, and what is left
pub record ReadSoFar {S : Type 0} (all left : Reading (List Parts)) (k : ℕ) (read : List Feature) (taken : HashSet (List ℕ) S) : Type 0 where
  pub parts : List Parts
  pub reads : all ≡ behind parts left
  pub count : length read ≡ k
  pub made : AreMadeOf parts read
  pub known : HasIds (ids read) taken

module _ (items : List Lent) (k : ℕ) (all : Reading (List Parts)) where
  -- at first no feature is read, and all items are left
  pub so_far_start : {S : Type 0} (taken : HashSet (List ℕ) S) → taken.keys ≡ [] → all ≡ features 0 (lents_view items) → ReadSoFar all (features 0 (lents_view items)) 0 [] taken
  so_far_start taken empty e = record { parts = []; reads = e ∙ behind_none (features 0 (lents_view items)); count = refl; made = made_none; known = no_ids taken empty }

  module _ {S : Type 0} (item : Lent) (less : k < length items) (there : get_or items k item ≡ item) (old : List Feature)
      (taken : HashSet (List ℕ) S) (so_far : ReadSoFar all (features k (lents_view (drop k items))) k old taken) where
    left : all ≡ behind so_far.parts (features k (more (lent_of item) (lents_view (drop (k + 1) items))))
    left =
        let further : suc k ≡ k + 1 = omega arith in
        so_far.reads ∙ ap (λ (xs : List Lent). behind so_far.parts (features k (lents_view xs)))
        (drop-cons items k item less ∙ ap (λ (x : Lent). x ∷ drop (suc k) items) there ∙ ap (λ (n : ℕ). item ∷ drop n items) further)

    -- a feature that was read and added is one of those read, and the items behind it are left
    pub so_far_more : (p : Parts) (new : List Feature) (known : HashSet (List ℕ) S) → feature k (lent_of item) ≡ Ok p →
        IsAdded old new p → HasIds (ids new) known → ReadSoFar all (features (k + 1) (lents_view (drop (k + 1) items))) (k + 1) new known
    so_far_more p new known reads added has = record {
      parts = so_far.parts ++ p ∷ [];
      reads = left ∙ features_next k (lent_of item) (lents_view (drop (k + 1) items)) so_far.parts p reads;
      count = ap length added.behind ∙ (let n = length-append old (added.feature ∷ []) in let c = so_far.count in omega arith);
      made = made_more so_far.parts p old new so_far.made added;
      known = has;
    }

    -- the fault of the next feature is that of the whole list
    pub so_far_stops : (fault : GeoFault) → feature k (lent_of item) ≡ Err fault → all ≡ Err fault
    so_far_stops fault e = left ∙ features_stop k (lent_of item) (lents_view (drop (k + 1) items)) so_far.parts fault e
