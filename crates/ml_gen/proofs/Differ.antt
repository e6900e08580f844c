-- The features of a generated map all have different ids.
use Rattle.std.proofs.Common.{◌≡◌, ◌≢◌, ℕ, suc, ◌<◌, List, [], ◌∷◌, ◌++◌, get_or, map, flat_map, All, pos, codes, sym, ap, subst, ◌∙◌, arith}
use Rattle.std.specs.List.{AllPairs}
use Rattle.std.proofs.lemmas.List.{length-map, get_or-map}
use Rattle.std.proofs.lemmas.List.Elements.{All-nil, All-cons}
use Rattle.std.proofs.lemmas.List.Kept.{AllPairs-cons}
use Rattle.ml_ratio.specs.declared.feature.Feature.{Feature}
use Rattle.ml_geojson.specs.Map.{HaveDifferentIds}
use Rattle.ml_gen.specs.Group.{IsGroupPlace, HaveOwnNumbers}
use Rattle.ml_gen.specs.Thing.{Thing, thing_of, id_of, first_town, town, river, area, things_in}
use Rattle.ml_gen.specs.declared.group.Group.{Group}
use Rattle.ml_gen.proofs.Ids.{same_letter, same_group}

-- the ids of two features differ
abbrev pub Other : Thing → Thing → Type 0
Other t u = t.id ≢ u.id

module _ {X : Type 0} (P : X → Type 0) (x : X) (xs : List X) (all : All P (x ∷ xs)) where
  -- what holds of all elements holds of the first one
  pub all_head : P x
  all_head = all 0 x (omega arith)

  -- what holds of all elements holds of all but the first one
  pub all_tail : All P xs
  all_tail k d lt = all (suc k) d (omega (arith, lt))

-- what holds of all pairs in a list holds of those behind its first element
pub pairs_tail : {X : Type 0} (R : X → X → Type 0) (x : X) (xs : List X) → AllPairs R (x ∷ xs) → AllPairs R xs
pairs_tail R x xs pairs i j d below lt = pairs (suc i) (suc j) d (omega (arith, below)) (omega (arith, lt))

-- and it holds of the first element with each one behind it
pub pairs_head : {X : Type 0} (R : X → X → Type 0) (x : X) (xs : List X) → AllPairs R (x ∷ xs) → All (R x) xs
pairs_head R x xs pairs k d lt = pairs 0 (suc k) d (omega arith) (omega (arith, lt))

-- another number
abbrev Apart : Group → Group → Type 0
Apart g h = g.number ≢ h.number

-- no feature of other groups has an id of this one
none_of_others : (g : Group) (a : ℕ) (hs : List Group) → g.number < 6000 → All IsGroupPlace hs → All (Apart g) hs → All (λ (t : Thing). id_of g (a ∷ []) ≢ t.id) (flat_map things_in hs)
none_of_others g a [] low placed others = All-nil (λ (t : Thing). id_of g (a ∷ []) ≢ t.id)
none_of_others g a (h ∷ hs) low placed others =
    let P : Thing → Type 0 = λ t. id_of g (a ∷ []) ≢ t.id in
    let rest : All P (flat_map things_in hs) = none_of_others g a hs low (all_tail IsGroupPlace h hs placed) (all_tail (Apart g) h hs others) in
    let apart : (b : ℕ) → id_of g (a ∷ []) ≢ id_of h (b ∷ []) = λ b same. all_head (Apart g) h hs others (same_group g h a b low (all_head IsGroupPlace h hs placed).0 same) in
    let fifth : All P (area h ∷ flat_map things_in hs) = All-cons P (area h) (flat_map things_in hs) (apart 112) rest in
    let fourth : All P (river h ∷ area h ∷ flat_map things_in hs) = All-cons P (river h) (area h ∷ flat_map things_in hs) (apart 114) fifth in
    let third = All-cons P (town h (codes "c") (pos 800) (codes "1")) (river h ∷ area h ∷ flat_map things_in hs) (apart 99) fourth in
    let second = All-cons P (town h (codes "b") (pos 400) (codes "2")) (town h (codes "c") (pos 800) (codes "1") ∷ river h ∷ area h ∷ flat_map things_in hs) (apart 98) third in
    All-cons P (first_town h) (town h (codes "b") (pos 400) (codes "2") ∷ town h (codes "c") (pos 800) (codes "1") ∷ river h ∷ area h ∷ flat_map things_in hs) (apart 97) second

-- the features of one group before those of others
module _ (g : Group) (rest : List Thing) (others : (a : ℕ) → All (λ (t : Thing). id_of g (a ∷ []) ≢ t.id) rest) (pairs : AllPairs Other rest) where
  letters : (a b : ℕ) → ¬ (a ≡ b) → id_of g (a ∷ []) ≢ id_of g (b ∷ [])
  letters a b apart same = apart (same_letter g g a b same)

  from_fifth : AllPairs Other (area g ∷ rest)
  from_fifth = AllPairs-cons Other (area g) rest (others 112) pairs

  from_fourth : AllPairs Other (river g ∷ area g ∷ rest)
  from_fourth = AllPairs-cons Other (river g) (area g ∷ rest) (All-cons (Other (river g)) (area g) rest (letters 114 112 (λ e. omega arith)) (others 114)) from_fifth

  from_third : AllPairs Other (town g (codes "c") (pos 800) (codes "1") ∷ river g ∷ area g ∷ rest)
  from_third =
      let t : Thing = town g (codes "c") (pos 800) (codes "1") in
      AllPairs-cons Other t (river g ∷ area g ∷ rest)
      (All-cons (Other t) (river g) (area g ∷ rest) (letters 99 114 (λ e. omega arith)) (All-cons (Other t) (area g) rest (letters 99 112 (λ e. omega arith)) (others 99))) from_fourth

  from_second : AllPairs Other (town g (codes "b") (pos 400) (codes "2") ∷ town g (codes "c") (pos 800) (codes "1") ∷ river g ∷ area g ∷ rest)
  from_second =
      let t : Thing = town g (codes "b") (pos 400) (codes "2") in
      let u : Thing = town g (codes "c") (pos 800) (codes "1") in
      AllPairs-cons Other t (u ∷ river g ∷ area g ∷ rest)
      (All-cons (Other t) u (river g ∷ area g ∷ rest) (letters 98 99 (λ e. omega arith))
      (All-cons (Other t) (river g) (area g ∷ rest) (letters 98 114 (λ e. omega arith)) (All-cons (Other t) (area g) rest (letters 98 112 (λ e. omega arith)) (others 98)))) from_third

  from_first : AllPairs Other (things_in g ++ rest)
  from_first =
      let s : Thing = first_town g in
      let t : Thing = town g (codes "b") (pos 400) (codes "2") in
      let u : Thing = town g (codes "c") (pos 800) (codes "1") in
      AllPairs-cons Other s (t ∷ u ∷ river g ∷ area g ∷ rest)
      (All-cons (Other s) t (u ∷ river g ∷ area g ∷ rest) (letters 97 98 (λ e. omega arith))
      (All-cons (Other s) u (river g ∷ area g ∷ rest) (letters 97 99 (λ e. omega arith))
      (All-cons (Other s) (river g) (area g ∷ rest) (letters 97 114 (λ e. omega arith)) (All-cons (Other s) (area g) rest (letters 97 112 (λ e. omega arith)) (others 97))))) from_second

no_pairs : {X : Type 0} (R : X → X → Type 0) → AllPairs R []
no_pairs R i j d below lt = absurd (omega (arith, lt))

things_differ : (gs : List Group) → All IsGroupPlace gs → HaveOwnNumbers gs → AllPairs Other (flat_map things_in gs)
things_differ [] placed own = no_pairs Other
things_differ (g ∷ gs) placed own =
    from_first g (flat_map things_in gs)
    (λ a. none_of_others g a gs (all_head IsGroupPlace g gs placed).0 (all_tail IsGroupPlace g gs placed) (pairs_head Apart g gs own))
    (things_differ gs (all_tail IsGroupPlace g gs placed) (pairs_tail Apart g gs own))

made_differ : (fs : List Feature) (things : List Thing) → map thing_of fs ≡ things → AllPairs Other things → HaveDifferentIds fs
made_differ fs things are differ i j d below lt same =
    let pairs : AllPairs Other (map thing_of fs) = subst (AllPairs Other) (sym are) differ in
    let one : get_or (map thing_of fs) i (thing_of d) ≡ thing_of (get_or fs i d) = get_or-map thing_of fs i d (thing_of d) (omega (arith, below, lt)) in
    let other : get_or (map thing_of fs) j (thing_of d) ≡ thing_of (get_or fs j d) = get_or-map thing_of fs j d (thing_of d) lt in
    pairs i j (thing_of d) below (omega (arith, lt, length-map fs thing_of)) (ap (λ (t : Thing). t.id) one ∙ same ∙ sym (ap (λ (t : Thing). t.id) other))

-- features that are those of different groups have different ids
pub features_differ : (groups : List Group) (fs : List Feature) → All IsGroupPlace groups → HaveOwnNumbers groups → map thing_of fs ≡ flat_map things_in groups → HaveDifferentIds fs
features_differ groups fs placed own are = made_differ fs (flat_map things_in groups) are (things_differ groups placed own)
