-- Features that are made of the same parts are the same.
use Rattle.std.proofs.Common.{◌≡◌, ℕ, zero, suc, ◌<◌, ◌≤◌, List, ◌∷◌, [], ◌++◌, length, get_or, take, Bool, true, false, Option, Some, None, refl, sym, ap, ◌∙◌, subst, arith, inl, inr}
use Rattle.std.proofs.Math.Seq.{take-suc}
use Rattle.std.proofs.lemmas.Bool.{cases_order}
use Rattle.std.proofs.lemmas.List.{length-map, get_or-map, same_lists}
use Rattle.ml_ratio.specs.declared.feature.Feature.{Feature}
use Rattle.ml_geojson.specs.Collection.{Parts}
use Rattle.ml_geojson.specs.Ids.{is_among, marked, IsFresh, IsIdOf}
use Rattle.ml_geojson.specs.Map.{ids, IsMadeOf, AreMadeOf}
use Rattle.ml_geojson.proofs.SameFeature.{same_is_one}

-- two features with one id that are made of the same parts
pub same_made : (parts : Parts) (f g : Feature) → f.id ≡ g.id → IsMadeOf parts f → IsMadeOf parts g → f ≡ g
same_made parts f g e one other = same_is_one f g e (one.shape ∙ sym other.shape) (one.props ∙ sym other.props)

-- no number of signs is needed for the one and too small for the other
fewer : (taken : List ℕ → Bool) (k : ℕ) (one other : List ℕ) (a : IsFresh taken k one) (b : IsFresh taken k other) → a.signs < b.signs → ⊥
fewer taken k one other a b less =
    let known = b.fewest a.signs less in
    let new : taken (marked a.signs k) ≡ false = ap taken (sym a.written) ∙ a.new in
    let both : true ≡ false = sym known ∙ new in
    cc

-- a fresh id is one
one_fresh : (taken : List ℕ → Bool) (k : ℕ) (one other : List ℕ) → IsFresh taken k one → IsFresh taken k other → one ≡ other
one_fresh taken k one other a b =
    elim (cases_order a.signs b.signs) [
      | inl e ↦ a.written ∙ ap (λ (n : ℕ). marked n k) e ∙ sym b.written
      | inr (inl less) ↦ absurd (fewer taken k one other a b less)
      | inr (inr more) ↦ absurd (fewer taken k other one b a more)
    ]

own_id : (taken : List ℕ → Bool) (k : ℕ) (own one other : List ℕ) (t : Bool) → taken own ≡ t → IsIdOf taken k (Some own) one → IsIdOf taken k (Some own) other → one ≡ other
own_id taken k own one other true e a b = one_fresh taken k one other (a.known e) (b.known e)
own_id taken k own one other false e a b = a.new e ∙ sym (b.new e)

-- the id that a feature gets is one
one_id : (taken : List ℕ → Bool) (k : ℕ) (own : Option (List ℕ)) (one other : List ℕ) → IsIdOf taken k own one → IsIdOf taken k own other → one ≡ other
one_id taken k None one other a b = one_fresh taken k one other a b
one_id taken k (Some own) one other a b = own_id taken k own one other (taken own) refl a b

module _ (parts : List Parts) (fs gs : List Feature) (are : AreMadeOf parts fs) (like : AreMadeOf parts gs) (p : Parts) (f : Feature) where
  -- where the ids before it are the same, so is a feature's
  id_at : (k : ℕ) → k < length parts → take k (ids fs) ≡ take k (ids gs) → (get_or fs k f).id ≡ (get_or gs k f).id
  id_at k lt front =
      one_id (is_among (take k (ids gs))) k (get_or parts k p).own (get_or fs k f).id (get_or gs k f).id
      (subst (λ (before : List (List ℕ)). IsIdOf (is_among before) k (get_or parts k p).own (get_or fs k f).id) front (are.named k p f lt)) (like.named k p f lt)

  next : (hs : List Feature) (k : ℕ) → k < length hs → take (suc k) (ids hs) ≡ take k (ids hs) ++ ((get_or hs k f).id ∷ [])
  next hs k lt =
      let n = length-map hs (λ (h : Feature). h.id) in
      take-suc (ids hs) k f.id (omega arith) ∙ ap (λ (id : List ℕ). take k (ids hs) ++ (id ∷ [])) (get_or-map (λ (h : Feature). h.id) hs k f f.id lt)

  -- the first ids are the same
  fronts : (k : ℕ) → k ≤ length parts → take k (ids fs) ≡ take k (ids gs)
  fronts zero h = refl
  fronts (suc k) h =
      let a = are.one_each in
      let b = like.one_each in
      let before = fronts k (omega arith) in
      let here = id_at k (omega arith) before in
      let one = next fs k (omega arith) in
      let other = next gs k (omega arith) in
      one ∙ ap (λ (front : List (List ℕ)). front ++ ((get_or fs k f).id ∷ [])) before ∙ ap (λ (id : List ℕ). take k (ids gs) ++ (id ∷ [])) here ∙ sym other

  same_at : (k : ℕ) → k < length parts → get_or fs k f ≡ get_or gs k f
  same_at k lt = same_made (get_or parts k p) (get_or fs k f) (get_or gs k f) (id_at k lt (fronts k (omega arith))) (are.made k p f lt) (like.made k p f lt)

no_parts : Parts
no_parts = record { own = None; shape = None; props = [] }

-- features that are made of the same parts
pub same_features : (parts : List Parts) (fs gs : List Feature) → AreMadeOf parts fs → AreMadeOf parts gs → fs ≡ gs
same_features parts fs gs are like =
    same_lists fs gs (are.one_each ∙ sym like.one_each) (λ k f lt. (let n = are.one_each in same_at parts fs gs are like no_parts f k (omega arith)))
