-- Features by number: what is done to the places of numbers is done to the features that have them, by their ids.
use Rattle.std.proofs.Common.{◌≡◌, ℕ, suc, ◌<◌, ◌≤◌, Bool, true, false, cond, List, [], ◌∷◌, ◌++◌, length, filter, Option, Some, None, is_some, IsSome, refl, sym, ap, subst, ◌∙◌, arith}
use Rattle.std.specs.Prelude.{All, nat_eq}
use Rattle.std.specs.List.{IsDistinct, AllByRecursion, list_any}
use Rattle.std.specs.Map.{keys_of, values_of, lookup, remove_entry, set_value}
use Rattle.std.specs.Str.{bytes_eq}
use Rattle.std.proofs.lemmas.Bool.{true≢false, false≢true}
use Rattle.std.proofs.lemmas.Bool.Decides.{nat_tests}
use Rattle.std.proofs.lemmas.Cmp.{nat_list_eq_equiv}
use Rattle.std.proofs.lemmas.List.Elements.{All-cons, All-tail}
use Rattle.std.proofs.lemmas.Slice.Eq.{bytes_eq-Decides}
use Rattle.ml_ratio.specs.declared.feature.Feature.{Feature}
use Rattle.ml_geojson.specs.Map.{ids}
use Rattle.ml_editor.specs.Features.{with_place, standing, number_with}
use Rattle.ml_editor.proofs.Entries.{Entry, others_too}

-- a place by a number, taken or left
abbrev pub Place : Type 0
Place = ℕ × Option Feature

-- a feature by its number
abbrev pub Held : Type 0
Held = ℕ × Feature

-- the features by their ids
abbrev pub by_id : List Held → List Entry
by_id [] = []
by_id (e ∷ es) = (e.1.id, e.1) ∷ by_id es

-- as entries by id the features stay the same, in the same order
pub by_values : (es : List Held) → values_of (by_id es) ≡ values_of es
by_values [] = refl
by_values (e ∷ es) = ap (λ fs. e.1 ∷ fs) (by_values es)

-- the keys of these entries are the ids of the features
pub by_keys : (es : List Held) → keys_of (by_id es) ≡ ids (values_of es)
by_keys [] = refl
by_keys (e ∷ es) = ap (λ ks. e.1.id ∷ ks) (by_keys es)

-- each of these entries has the id of its own feature as its key
pub by_own : (es : List Held) → keys_of (by_id es) ≡ ids (values_of (by_id es))
by_own es = by_keys es ∙ ap ids (sym (by_values es))

-- ---- tests

same_number : (n : ℕ) → nat_eq n n ≡ true
same_number n = grind (arith, nat_tests)

turned_number : (n m : ℕ) → nat_eq n m ≡ false → nat_eq m n ≡ false
turned_number n m e = grind (arith, nat_tests)

some_number : (n m : ℕ) → Some n ≡ Some m → n ≡ m
some_number n m e = cc

no_number : (n : ℕ) → None ≡ Some n → ⊥
no_number n e = cc

turned_id : (a b : List ℕ) (v : Bool) → bytes_eq a b ≡ v → bytes_eq b a ≡ v
turned_id a b v e = nat_list_eq_equiv.symm b a ∙ e

same_id : (a b : List ℕ) → bytes_eq a b ≡ true → a ≡ b
same_id a b e = (bytes_eq-Decides a b).0 e

-- ---- numbers of features

other_more : (k : ℕ) (id : List ℕ) (n key : ℕ) (o : Option Feature) (es : List Held) → nat_eq k key ≡ false →
    number_with id (with_place key o es) ≡ Some n → (number_with id es ≡ Some n → nat_eq k n ≡ false) → nat_eq k n ≡ false
other_more k id n key None es apart is rest = rest is
other_more k id n key (Some f) es apart is rest = go (bytes_eq id f.id) is
  where
    go : (b : Bool) → cond b (Some key) (number_with id es) ≡ Some n → nat_eq k n ≡ false
    go true h = subst (λ m. nat_eq k m ≡ false) (some_number key n h) apart
    go false h = rest h

-- a feature's number is that of a place
number_other : (k : ℕ) (id : List ℕ) (n : ℕ) (es : List Place) → AllByRecursion (λ m. nat_eq k m ≡ false) (keys_of es) → number_with id (standing es) ≡ Some n → nat_eq k n ≡ false
number_other k id n [] all is = absurd (no_number n is)
number_other k id n (e ∷ es) all is = other_more k id n e.0 e.1 (standing es) all.0 is (number_other k id n es all.1)

-- what is at a place, if there is one
abbrev pub at_place : Option (Option Feature) → Option Feature
at_place None = None
at_place (Some o) = o

module _ (id : List ℕ) (n : ℕ) where
  place_more : (key : ℕ) (o : Option Feature) (es : List Place) →
      AllByRecursion (λ m. nat_eq key m ≡ false) (keys_of es) → number_with id (with_place key o (standing es)) ≡ Some n →
      (number_with id (standing es) ≡ Some n → at_place (lookup (nat_eq n) es) ≡ lookup (bytes_eq id) (by_id (standing es))) →
      at_place (cond (nat_eq n key) (Some o) (lookup (nat_eq n) es)) ≡ lookup (bytes_eq id) (by_id (with_place key o (standing es)))
  place_more key None es apart is rest = rw (turned_number key n (number_other key id n es apart is)) (rest is)
  place_more key (Some f) es apart is rest = go (bytes_eq id f.id) refl
    where
      go : (b : Bool) → bytes_eq id f.id ≡ b → at_place (cond (nat_eq n key) (Some (Some f)) (lookup (nat_eq n) es)) ≡ lookup (bytes_eq id) (by_id (with_place key (Some f) (standing es)))
      go true e =
          let here : key ≡ n = some_number key n (subst (λ b. cond b (Some key) (number_with id (standing es)) ≡ Some n) e is) in
          rw (e, subst (λ m. nat_eq n m ≡ true) (sym here) (same_number n)) refl
      go false e =
          let there : number_with id (standing es) ≡ Some n = subst (λ b. cond b (Some key) (number_with id (standing es)) ≡ Some n) e is in
          rw (e, turned_number key n (number_other key id n es apart there)) (rest there)

  -- the feature with the id is at the place with its number
  pub place_is : (es : List Place) → IsDistinct nat_eq (keys_of es) → number_with id (standing es) ≡ Some n → at_place (lookup (nat_eq n) es) ≡ lookup (bytes_eq id) (by_id (standing es))
  unfolding IsDistinct
  place_is [] differ is = absurd (no_number n is)
  place_is (e ∷ es) differ is = place_more e.0 e.1 es differ.0 is (place_is es differ.1)

  -- ---- a feature that goes

  gone_more : (key : ℕ) (o : Option Feature) (es rest : List Place) →
      AllByRecursion (λ m. nat_eq key m ≡ false) (keys_of es) → number_with id (with_place key o (standing es)) ≡ Some n →
      (number_with id (standing es) ≡ Some n → by_id (standing rest) ≡ remove_entry (bytes_eq id) (by_id (standing es))) →
      by_id (standing (cond (nat_eq n key) ((key, None) ∷ es) ((key, o) ∷ rest))) ≡ remove_entry (bytes_eq id) (by_id (with_place key o (standing es)))
  gone_more key None es rest apart is others = rw (turned_number key n (number_other key id n es apart is)) (others is)
  gone_more key (Some f) es rest apart is others = go (bytes_eq id f.id) refl
    where
      go : (b : Bool) → bytes_eq id f.id ≡ b →
          by_id (standing (cond (nat_eq n key) ((key, None) ∷ es) ((key, Some f) ∷ rest))) ≡ remove_entry (bytes_eq id) (by_id (with_place key (Some f) (standing es)))
      go true e =
          let here : key ≡ n = some_number key n (subst (λ b. cond b (Some key) (number_with id (standing es)) ≡ Some n) e is) in
          rw (e, subst (λ m. nat_eq n m ≡ true) (sym here) (same_number n)) refl
      go false e =
          let there : number_with id (standing es) ≡ Some n = subst (λ b. cond b (Some key) (number_with id (standing es)) ≡ Some n) e is in
          rw (e, turned_number key n (number_other key id n es apart there)) (ap (λ xs. (f.id, f) ∷ xs) (others there))

  -- the place of its number is left: the feature with the id goes
  pub gone_is : (es : List Place) → IsDistinct nat_eq (keys_of es) → number_with id (standing es) ≡ Some n →
      by_id (standing (set_value (nat_eq n) es None)) ≡ remove_entry (bytes_eq id) (by_id (standing es))
  unfolding IsDistinct
  gone_is [] differ is = absurd (no_number n is)
  gone_is (e ∷ es) differ is = gone_more e.0 e.1 es (set_value (nat_eq n) es None) differ.0 is (gone_is es differ.1)

-- no feature has an id that differs from all ids
pub number_none : (id : List ℕ) (es : List Held) → AllByRecursion (λ other. bytes_eq id other ≡ false) (ids (values_of es)) → number_with id es ≡ None
number_none id [] all = refl
number_none id (e ∷ es) all = rw all.0 (number_none id es all.1)

module _ (id : List ℕ) (n : ℕ) (q : List ℕ) where
  left_more : (key : ℕ) (o : Option Feature) (es rest : List Place) → AllByRecursion (λ m. nat_eq key m ≡ false) (keys_of es) →
      IsDistinct bytes_eq (ids (values_of (with_place key o (standing es)))) → number_with id (with_place key o (standing es)) ≡ Some n →
      (IsDistinct bytes_eq (ids (values_of (standing es))) → number_with id (standing es) ≡ Some n → number_with q (standing rest) ≡ cond (bytes_eq id q) None (number_with q (standing es))) →
      number_with q (standing (cond (nat_eq n key) ((key, None) ∷ es) ((key, o) ∷ rest))) ≡ cond (bytes_eq id q) None (number_with q (with_place key o (standing es)))
  unfolding IsDistinct
  left_more key None es rest apart own is others = rw (turned_number key n (number_other key id n es apart is)) (others own is)
  left_more key (Some f) es rest apart own is others = go (bytes_eq id f.id) refl
    where
      old : Option ℕ
      old = number_with q (standing es)

      here_too : (b c : Bool) → bytes_eq id q ≡ b → bytes_eq q f.id ≡ c → bytes_eq id f.id ≡ true → old ≡ cond b None (cond c (Some key) old)
      here_too true c e d same =
          let eq : bytes_eq q f.id ≡ true = subst (λ x. bytes_eq x f.id ≡ true) (same_id id q e) same in
          number_none q (standing es) (others_too q f.id (ids (values_of (standing es))) eq own.0)
      here_too false true e d same = absurd (true≢false (sym (subst (λ x. bytes_eq id x ≡ true) (sym (same_id q f.id d)) same) ∙ e))
      here_too false false e d same = refl

      behind : (b c : Bool) → bytes_eq id q ≡ b → bytes_eq q f.id ≡ c → bytes_eq id f.id ≡ false →
          (new : Option ℕ) → new ≡ cond b None old → cond c (Some key) new ≡ cond b None (cond c (Some key) old)
      behind true true e d other new same = absurd (true≢false (sym (subst (λ x. bytes_eq id x ≡ true) (same_id q f.id d) e) ∙ other))
      behind true false e d other new same = same
      behind false true e d other new same = refl
      behind false false e d other new same = same

      go : (b : Bool) → bytes_eq id f.id ≡ b → number_with q (standing (cond (nat_eq n key) ((key, None) ∷ es) ((key, Some f) ∷ rest)))
          ≡ cond (bytes_eq id q) None (number_with q (with_place key (Some f) (standing es)))
      go true e =
          let here : key ≡ n = some_number key n (subst (λ b. cond b (Some key) (number_with id (standing es)) ≡ Some n) e is) in
          rw (subst (λ m. nat_eq n m ≡ true) (sym here) (same_number n)) (here_too (bytes_eq id q) (bytes_eq q f.id) refl refl e)
      go false e =
          let there : number_with id (standing es) ≡ Some n = subst (λ b. cond b (Some key) (number_with id (standing es)) ≡ Some n) e is in
          rw (turned_number key n (number_other key id n es apart there)) (behind (bytes_eq id q) (bytes_eq q f.id) refl refl e (number_with q (standing rest)) (others own.1 there))

  -- and then the others have the numbers that they had
  pub left_is : (es : List Place) → IsDistinct nat_eq (keys_of es) → IsDistinct bytes_eq (ids (values_of (standing es))) → number_with id (standing es) ≡ Some n →
      number_with q (standing (set_value (nat_eq n) es None)) ≡ cond (bytes_eq id q) None (number_with q (standing es))
  unfolding IsDistinct
  left_is [] differ own is = absurd (no_number n is)
  left_is (e ∷ es) differ own is = left_more e.0 e.1 es (set_value (nat_eq n) es None) differ.0 own is (left_is es differ.1)

-- ---- a feature in the place of another

module _ (f : Feature) (n : ℕ) where
  taken_more : (key : ℕ) (o : Option Feature) (es rest : List Place) →
      AllByRecursion (λ m. nat_eq key m ≡ false) (keys_of es) → number_with f.id (with_place key o (standing es)) ≡ Some n →
      (number_with f.id (standing es) ≡ Some n → by_id (standing rest) ≡ set_value (bytes_eq f.id) (by_id (standing es)) f) →
      by_id (standing (cond (nat_eq n key) ((key, Some f) ∷ es) ((key, o) ∷ rest))) ≡ set_value (bytes_eq f.id) (by_id (with_place key o (standing es))) f
  taken_more key None es rest apart is others = rw (turned_number key n (number_other key f.id n es apart is)) (others is)
  taken_more key (Some g) es rest apart is others = go (bytes_eq f.id g.id) refl
    where
      go : (b : Bool) → bytes_eq f.id g.id ≡ b →
          by_id (standing (cond (nat_eq n key) ((key, Some f) ∷ es) ((key, Some g) ∷ rest))) ≡ set_value (bytes_eq f.id) (by_id (with_place key (Some g) (standing es))) f
      go true e =
          let here : key ≡ n = some_number key n (subst (λ b. cond b (Some key) (number_with f.id (standing es)) ≡ Some n) e is) in
          rw (e, subst (λ m. nat_eq n m ≡ true) (sym here) (same_number n)) (ap (λ (k : List ℕ). (k, f) ∷ by_id (standing es)) (same_id f.id g.id e))
      go false e =
          let there : number_with f.id (standing es) ≡ Some n = subst (λ b. cond b (Some key) (number_with f.id (standing es)) ≡ Some n) e is in
          rw (e, turned_number key n (number_other key f.id n es apart there)) (ap (λ xs. (g.id, g) ∷ xs) (others there))

  -- the place of its number takes the new feature: this comes in the place of that with its id
  pub taken_is : (es : List Place) → IsDistinct nat_eq (keys_of es) → number_with f.id (standing es) ≡ Some n →
      by_id (standing (set_value (nat_eq n) es (Some f))) ≡ set_value (bytes_eq f.id) (by_id (standing es)) f
  unfolding IsDistinct
  taken_is [] differ is = absurd (no_number n is)
  taken_is (e ∷ es) differ is = taken_more e.0 e.1 es (set_value (nat_eq n) es (Some f)) differ.0 is (taken_is es differ.1)

  kept_more : (q : List ℕ) (key : ℕ) (o : Option Feature) (es rest : List Place) → AllByRecursion (λ m. nat_eq key m ≡ false) (keys_of es) →
      number_with f.id (with_place key o (standing es)) ≡ Some n → (number_with f.id (standing es) ≡ Some n → number_with q (standing rest) ≡ number_with q (standing es)) →
      number_with q (standing (cond (nat_eq n key) ((key, Some f) ∷ es) ((key, o) ∷ rest))) ≡ number_with q (with_place key o (standing es))
  kept_more q key None es rest apart is others = rw (turned_number key n (number_other key f.id n es apart is)) (others is)
  kept_more q key (Some g) es rest apart is others = go (bytes_eq f.id g.id) refl
    where
      go : (b : Bool) → bytes_eq f.id g.id ≡ b → number_with q (standing (cond (nat_eq n key) ((key, Some f) ∷ es) ((key, Some g) ∷ rest))) ≡ number_with q (with_place key (Some g) (standing es))
      go true e =
          let here : key ≡ n = some_number key n (subst (λ b. cond b (Some key) (number_with f.id (standing es)) ≡ Some n) e is) in
          rw (subst (λ m. nat_eq n m ≡ true) (sym here) (same_number n)) (ap (λ (k : List ℕ). cond (bytes_eq q k) (Some key) (number_with q (standing es))) (same_id f.id g.id e))
      go false e =
          let there : number_with f.id (standing es) ≡ Some n = subst (λ b. cond b (Some key) (number_with f.id (standing es)) ≡ Some n) e is in
          rw (turned_number key n (number_other key f.id n es apart there)) (ap (λ o. cond (bytes_eq q g.id) (Some key) o) (others there))

  -- and all numbers are as they were
  pub kept_is : (q : List ℕ) (es : List Place) → IsDistinct nat_eq (keys_of es) → number_with f.id (standing es) ≡ Some n →
      number_with q (standing (set_value (nat_eq n) es (Some f))) ≡ number_with q (standing es)
  unfolding IsDistinct
  kept_is q [] differ is = absurd (no_number n is)
  kept_is q (e ∷ es) differ is = kept_more q e.0 e.1 es (set_value (nat_eq n) es (Some f)) differ.0 is (kept_is q es differ.1)

-- ---- no place has the number

unset_more : (e : Place) (o : Option Feature) (es rest : List Place) (p : Option (Option Feature)) (b : Bool) →
    cond b (Some e.1) p ≡ None → (p ≡ None → rest ≡ es) → cond b ((e.0, o) ∷ es) (e ∷ rest) ≡ e ∷ es
unset_more e o es rest p true none others = absurd (let f : Some e.1 ≡ None = none in cc)
unset_more e o es rest p false none others = ap (λ xs. e ∷ xs) (others none)

-- nothing changes where a number that no place has is set
pub none_set : (n : ℕ) (es : List Place) (o : Option Feature) → lookup (nat_eq n) es ≡ None → set_value (nat_eq n) es o ≡ es
none_set n [] o none = refl
none_set n (e ∷ es) o none = unset_more e o es (set_value (nat_eq n) es o) (lookup (nat_eq n) es) (nat_eq n e.0) none (none_set n es o)

-- ---- a feature more

behind_more : (key : ℕ) (o : Option Feature) (all others last : List Held) → all ≡ others ++ last → with_place key o all ≡ with_place key o others ++ last
behind_more key None all others last same = same
behind_more key (Some f) all others last same = ap (λ xs. (key, f) ∷ xs) same

-- a further place that a feature takes puts the feature behind the others, by its number
pub standing_behind : (es : List Place) (n : ℕ) (f : Feature) → standing (es ++ (n, Some f) ∷ []) ≡ standing es ++ (n, f) ∷ []
standing_behind [] n f = refl
standing_behind (e ∷ es) n f = behind_more e.0 e.1 (standing (es ++ (n, Some f) ∷ [])) (standing es) ((n, f) ∷ []) (standing_behind es n f)

-- a feature behind others by number is the last of the features
pub values_behind : (es : List Held) (n : ℕ) (f : Feature) → values_of (es ++ (n, f) ∷ []) ≡ values_of es ++ f ∷ []
values_behind [] n f = refl
values_behind (e ∷ es) n f = ap (λ fs. e.1 ∷ fs) (values_behind es n f)

-- the id of the last feature is the last of the ids
pub ids_behind : (fs : List Feature) (f : Feature) → ids (fs ++ f ∷ []) ≡ ids fs ++ f.id ∷ []
ids_behind [] f = refl
ids_behind (g ∷ fs) f = ap (λ ks. g.id ∷ ks) (ids_behind fs f)

-- the number of the last place is the last of the numbers
pub keys_behind : (es : List Place) (n : ℕ) (o : Option Feature) → keys_of (es ++ (n, o) ∷ []) ≡ keys_of es ++ n ∷ []
keys_behind [] n o = refl
keys_behind (e ∷ es) n o = ap (λ ks. e.0 ∷ ks) (keys_behind es n o)

number_more : (f : Feature) (n : ℕ) (q : List ℕ) (e : Held) (old new : Option ℕ) (b c d : Bool) → bytes_eq f.id q ≡ b → bytes_eq q e.1.id ≡ c →
    bytes_eq f.id e.1.id ≡ d → d ≡ false → new ≡ cond b (Some n) old → cond c (Some e.0) new ≡ cond b (Some n) (cond c (Some e.0) old)
number_more f n q e old new true true d fq qe fe other same = absurd (true≢false (sym (subst (λ x. bytes_eq f.id x ≡ true) (same_id q e.1.id qe) fq) ∙ fe ∙ other))
number_more f n q e old new true false d fq qe fe other same = same
number_more f n q e old new false true d fq qe fe other same = refl
number_more f n q e old new false false d fq qe fe other same = same

not_first : (b : Bool) (n : ℕ) (o : Option ℕ) → cond b (Some n) o ≡ None → (b ≡ false) × (o ≡ None)
not_first true n o e = absurd (no_number n (sym e))
not_first false n o e = (refl, e)

-- the numbers once a feature with a new id is behind the others
pub number_behind : (f : Feature) (n : ℕ) (q : List ℕ) (es : List Held) → number_with f.id es ≡ None → number_with q (es ++ (n, f) ∷ []) ≡ cond (bytes_eq f.id q) (Some n) (number_with q es)
number_behind f n q [] none = ap (λ b. cond b (Some n) None) (turned_id f.id q (bytes_eq f.id q) refl)
number_behind f n q (e ∷ es) none =
    let h = not_first (bytes_eq f.id e.1.id) e.0 (number_with f.id es) none in
    number_more f n q e (number_with q es) (number_with q (es ++ (n, f) ∷ [])) (bytes_eq f.id q) (bytes_eq q e.1.id) (bytes_eq f.id e.1.id) refl refl refl h.0 (number_behind f n q es h.1)

-- a number that no place has
pub number_free : (next : ℕ) (es : List Place) → All (λ n. n < next) (keys_of es) → lookup (nat_eq next) es ≡ None
number_free next [] low = refl
number_free next (e ∷ es) low =
    let below : e.0 < next = low 0 0 (omega arith) in
    let apart : nat_eq next e.0 ≡ false = above e.0 next below in
    rw apart (number_free next es (All-tail (λ n. n < next) e.0 (keys_of es) low))
  where
    above : (m n : ℕ) → m < n → nat_eq n m ≡ false
    above m n lt = grind (arith, nat_tests)

-- ---- places that are closed up

closed_more : (key : ℕ) (o : Option Feature) (es rest : List Place) → standing rest ≡ standing es → standing (cond (is_some o) ((key, o) ∷ rest) rest) ≡ with_place key o (standing es)
closed_more key None es rest same = same
closed_more key (Some f) es rest same = ap (λ xs. (key, f) ∷ xs) same

-- the features keep their order and their numbers where the places that were left are closed up
pub closed_is : (es : List Place) → standing (filter (λ e. is_some e.1) es) ≡ standing es
closed_is [] = refl
closed_is (e ∷ es) = closed_more e.0 e.1 es (filter (λ e. is_some e.1) es) (closed_is es)

closed_keys : (o : Option Feature) (key : ℕ) (rest : List Place) (P : ℕ → Type 0) → P key → All P (keys_of rest) → All P (keys_of (cond (is_some o) ((key, o) ∷ rest) rest))
closed_keys None key rest P here all = all
closed_keys (Some f) key rest P here all = All-cons P key (keys_of rest) here all

-- what holds of the numbers of all places holds of those of the places that stay
pub closed_low : (P : ℕ → Type 0) (es : List Place) → All P (keys_of es) → All P (keys_of (filter (λ e. is_some e.1) es))
closed_low P [] all = all
closed_low P (e ∷ es) all = closed_keys e.1 e.0 (filter (λ e. is_some e.1) es) P (all 0 0 (omega arith)) (closed_low P es (All-tail P e.0 (keys_of es) all))

-- ---- how many features there are

few_more : (key : ℕ) (o : Option Feature) (others : List Held) (n : ℕ) → length others ≤ n → length (with_place key o others) ≤ suc n
few_more key None others n few = omega (arith, few)
few_more key (Some f) others n few = omega (arith, few)

-- there are no more features than places
pub standing_few : (es : List Place) → length (standing es) ≤ length es
standing_few [] = omega arith
standing_few (e ∷ es) = few_more e.0 e.1 (standing es) (length es) (standing_few es)

-- there are as many features by id as by number
pub by_length : (es : List Held) → length (by_id es) ≡ length es
by_length [] = refl
by_length (e ∷ es) = ap suc (by_length es)

less_more : (e : Entry) (es rest : List Entry) (o : Option Feature) (b : Bool) → IsSome (cond b (Some e.1) o) →
    (IsSome o → suc (length rest) ≡ length es) → suc (length (cond b es (e ∷ rest))) ≡ suc (length es)
less_more e es rest o true some others = refl
less_more e es rest o false some others = ap suc (others some)

-- the feature with an id is one
pub one_less : (id : List ℕ) (es : List Entry) → IsSome (lookup (bytes_eq id) es) → suc (length (remove_entry (bytes_eq id) es)) ≡ length es
one_less id [] some = absurd (false≢true some)
one_less id (e ∷ es) some = less_more e es (remove_entry (bytes_eq id) es) (lookup (bytes_eq id) es) (bytes_eq id e.0) some (one_less id es)

-- a feature that has a number has an id
found_more : (id : List ℕ) (n : ℕ) (e : Held) (es : List Held) → number_with id (e ∷ es) ≡ Some n →
    (number_with id es ≡ Some n → IsSome (lookup (bytes_eq id) (by_id es))) → IsSome (cond (bytes_eq id e.1.id) (Some e.1) (lookup (bytes_eq id) (by_id es)))
found_more id n e es is rest = go (bytes_eq id e.1.id) is
  where
    go : (b : Bool) → cond b (Some e.0) (number_with id es) ≡ Some n → IsSome (cond b (Some e.1) (lookup (bytes_eq id) (by_id es)))
    go true h = refl
    go false h = rest h

-- a look-up by an id that has a number finds a feature
pub found_by : (id : List ℕ) (n : ℕ) (es : List Held) → number_with id es ≡ Some n → IsSome (lookup (bytes_eq id) (by_id es))
found_by id n [] is = absurd (no_number n is)
found_by id n (e ∷ es) is = found_more id n e es is (found_by id n es)

-- and one that has none has none
none_more : (id : List ℕ) (e : Held) (es : List Held) → number_with id (e ∷ es) ≡ None →
    (number_with id es ≡ None → lookup (bytes_eq id) (by_id es) ≡ None) → cond (bytes_eq id e.1.id) (Some e.1) (lookup (bytes_eq id) (by_id es)) ≡ None
none_more id e es is rest = let h = not_first (bytes_eq id e.1.id) e.0 (number_with id es) is in rw h.0 (rest h.1)

-- a look-up by an id that has no number finds none
pub none_by : (id : List ℕ) (es : List Held) → number_with id es ≡ None → lookup (bytes_eq id) (by_id es) ≡ None
none_by id [] is = refl
none_by id (e ∷ es) is = none_more id e es is (none_by id es)

-- the other way round
lacks_more : (id : List ℕ) (e : Held) (o : Option Feature) (p : Option ℕ) (b : Bool) → cond b (Some e.1) o ≡ None → (o ≡ None → p ≡ None) → cond b (Some e.0) p ≡ None
lacks_more id e o p true is rest = absurd (let f : Some e.1 ≡ None = is in cc)
lacks_more id e o p false is rest = rest is

-- an id by which a look-up finds no feature has no number
pub number_lacks : (id : List ℕ) (es : List Held) → lookup (bytes_eq id) (by_id es) ≡ None → number_with id es ≡ None
number_lacks id [] is = refl
number_lacks id (e ∷ es) is = lacks_more id e (lookup (bytes_eq id) (by_id es)) (number_with id es) (bytes_eq id e.1.id) is (number_lacks id es)

-- an id that has no number is none of the ids
pub lacks_any : (id : List ℕ) (es : List Held) → number_with id es ≡ None → list_any (bytes_eq id) (ids (values_of es)) ≡ false
lacks_any id [] is = refl
lacks_any id (e ∷ es) is = let h = not_first (bytes_eq id e.1.id) e.0 (number_with id es) is in rw h.0 (lacks_any id es h.1)

-- ---- an entry that goes

out_more : (P : List ℕ → Type 0) (e : Entry) (es rest : List Entry) (b : Bool) → P e.0 →
    AllByRecursion P (keys_of es) → AllByRecursion P (keys_of rest) → AllByRecursion P (keys_of (cond b es (e ∷ rest)))
out_more P e es rest true here all others = all
out_more P e es rest false here all others = (here, others)

out_all : (P : List ℕ → Type 0) (id : List ℕ) (es : List Entry) → AllByRecursion P (keys_of es) → AllByRecursion P (keys_of (remove_entry (bytes_eq id) es))
out_all P id [] all = all
out_all P id (e ∷ es) all = out_more P e es (remove_entry (bytes_eq id) es) (bytes_eq id e.0) all.0 all.1 (out_all P id es all.1)

out_differ_more : (e : Entry) (es rest : List Entry) (b : Bool) → IsDistinct bytes_eq (keys_of es) →
    AllByRecursion (λ k. bytes_eq e.0 k ≡ false) (keys_of rest) → IsDistinct bytes_eq (keys_of rest) → IsDistinct bytes_eq (keys_of (cond b es (e ∷ rest)))
unfolding IsDistinct
out_differ_more e es rest true all apart others = all
out_differ_more e es rest false all apart others = (apart, others)

-- the keys still differ
pub out_differ : (id : List ℕ) (es : List Entry) → IsDistinct bytes_eq (keys_of es) → IsDistinct bytes_eq (keys_of (remove_entry (bytes_eq id) es))
unfolding IsDistinct
out_differ id [] differ = differ
out_differ id (e ∷ es) differ =
    out_differ_more e es (remove_entry (bytes_eq id) es) (bytes_eq id e.0) differ.1 (out_all (λ k. bytes_eq e.0 k ≡ false) id es differ.0) (out_differ id es differ.1)

none_goes_more : (e : Entry) (es rest : List Entry) (o : Option Feature) (b : Bool) → cond b (Some e.1) o ≡ None → (o ≡ None → rest ≡ es) → cond b es (e ∷ rest) ≡ e ∷ es
none_goes_more e es rest o true none others = absurd (let f : Some e.1 ≡ None = none in cc)
none_goes_more e es rest o false none others = ap (λ xs. e ∷ xs) (others none)

-- where no entry has the key, none goes
pub none_goes : (id : List ℕ) (es : List Entry) → lookup (bytes_eq id) es ≡ None → remove_entry (bytes_eq id) es ≡ es
none_goes id [] none = refl
none_goes id (e ∷ es) none = none_goes_more e es (remove_entry (bytes_eq id) es) (lookup (bytes_eq id) es) (bytes_eq id e.0) none (none_goes id es)
