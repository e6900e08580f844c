-- The ids that features get all differ.
use Rattle.std.proofs.Common.{◌≡◌, ℕ, zero, suc, ◌<◌, List, [], ◌∷◌, length, get_or, take, Bool, true, false, ◌||◌, Option, Some, None, Result, Ok, Err, refl, sym, ap, ◌∙◌, arith}
use Rattle.std.specs.Result.{IfOk}
use Rattle.std.specs.Str.{bytes_eq}
use Rattle.std.proofs.lemmas.Slice.Eq.{bytes_eq-Decides}
use Rattle.ml_ratio.specs.declared.feature.Feature.{Feature}
use Rattle.ml_geojson.specs.Positions.{Reading}
use Rattle.ml_geojson.specs.Collection.{Parts}
use Rattle.ml_geojson.specs.Ids.{is_among, IsIdOf}
use Rattle.ml_geojson.specs.Map.{ids, HaveDifferentIds, AreMadeOf, AreRead, IsMap}
use Rattle.ml_geojson.specs.declared.fault.GeoFault.{GeoFault}

module _ (taken : List ℕ → Bool) (k : ℕ) (id : List ℕ) where
  own_new : (own : List ℕ) (t : Bool) → taken own ≡ t → IsIdOf taken k (Some own) id → taken id ≡ false
  own_new own true e h = (h.known e).new
  own_new own false e h = ap taken (h.new e) ∙ e

  -- the id that a feature gets is new
  id_new : (own : Option (List ℕ)) → IsIdOf taken k own id → taken id ≡ false
  id_new None h = h.new
  id_new (Some own) h = own_new own (taken own) refl h

first_true : (a b : Bool) → a ≡ true → (a || b) ≡ true
first_true a b e = rw e refl

later_true : (a b : Bool) → b ≡ true → (a || b) ≡ true
later_true true b e = refl
later_true false b e = e

-- each of the first ids is among them
among_front : (fs : List Feature) (i k : ℕ) (f : Feature) → i < k → i < length fs → is_among (take k (ids fs)) (get_or fs i f).id ≡ true
among_front [] i k f less lt = absurd (omega arith)
among_front (g ∷ fs) i zero f less lt = absurd (omega arith)
among_front (g ∷ fs) zero (suc k) f less lt = first_true (bytes_eq g.id g.id) (is_among (take k (ids fs)) g.id) ((bytes_eq-Decides g.id g.id).1 refl)
among_front (g ∷ fs) (suc i) (suc k) f less lt = later_true (bytes_eq (get_or fs i f).id g.id) (is_among (take k (ids fs)) (get_or fs i f).id) (among_front fs i k f (omega arith) (omega arith))

made_differ : (parts : List Parts) (fs : List Feature) (p : Parts) → AreMadeOf parts fs → HaveDifferentIds fs
made_differ parts fs p are i j d less lt same =
    let n = are.one_each in
    let new : is_among (take j (ids fs)) (get_or fs j d).id ≡ false = id_new (is_among (take j (ids fs))) j (get_or fs j d).id (get_or parts j p).own (are.named j p d (omega arith)) in
    let known : is_among (take j (ids fs)) (get_or fs i d).id ≡ true = among_front fs i j d less (omega arith) in
    let both : true ≡ false = sym known ∙ ap (is_among (take j (ids fs))) same ∙ new in
    absurd (cc)

no_parts : Parts
no_parts = record { own = None; shape = None; props = [] }

-- the features of a map file have ids of their own
pub read_differs : (answer : Result (List Feature) GeoFault) (reading : Reading (List Parts)) → AreRead answer reading → IfOk answer HaveDifferentIds
read_differs (Ok fs) reading h = made_differ h.0 fs no_parts h.2
read_differs (Err fault) reading h = tt

-- those of a map file too
pub map_differs : (bytes : List ℕ) (features : List Feature) → IsMap bytes features → HaveDifferentIds features
map_differs bytes features map = made_differ map.parts features no_parts map.made
