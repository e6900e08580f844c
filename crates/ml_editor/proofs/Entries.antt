-- Features by their ids as entries of a map in order: what the edits of entries are as edits of features.
use Rattle.std.proofs.Common.{◌≡◌, ℕ, zero, suc, ◌<◌, Bool, true, false, cond, not, List, [], ◌∷◌, length, filter, map}
use Rattle.std.proofs.Common.{Option, Some, None, MatchOption, Contains, IsSome, refl, sym, ap, subst, ◌∙◌, get_or, arith}
use Rattle.std.specs.List.{IsDistinct, AllByRecursion}
use Rattle.std.specs.Map.{keys_of, values_of, lookup, remove_entry, set_value}
use Rattle.std.specs.Str.{bytes_eq}
use Rattle.std.proofs.lemmas.Bool.{true≢false, false≢true}
use Rattle.std.proofs.lemmas.Cmp.{nat_list_eq_equiv}
use Rattle.std.proofs.lemmas.Slice.Eq.{bytes_eq-Decides}
use Rattle.ml_ratio.specs.declared.feature.Feature.{Feature}
use Rattle.ml_geojson.specs.Map.{ids}
use Rattle.ml_editor.specs.State.{HasFeature, in_place}

-- an entry: a feature by an id
abbrev pub Entry : Type 0
Entry = List ℕ × Feature

-- the rest of a list
abbrev rest_of : List (List ℕ) → List (List ℕ)
rest_of [] = []
rest_of (x ∷ xs) = xs

-- the front of a list
abbrev front_of : List ℕ → List (List ℕ) → List ℕ
front_of d [] = d
front_of d (x ∷ xs) = x

front_is : {x y : List ℕ} {xs ys : List (List ℕ)} → x ∷ xs ≡ y ∷ ys → x ≡ y
front_is {x} e = ap (front_of x) e

rest_is : {x y : List ℕ} {xs ys : List (List ℕ)} → x ∷ xs ≡ y ∷ ys → xs ≡ ys
rest_is e = ap rest_of e

-- a feature's id is a text just where the text is its key
turned : (id key other : List ℕ) → key ≡ other → bytes_eq other id ≡ bytes_eq id key
turned id key other same = nat_list_eq_equiv.symm other id ∙ ap (bytes_eq id) (sym same)

-- where no key is the id, no feature is left out
none_out : (id : List ℕ) (es : List Entry) → keys_of es ≡ ids (values_of es) → AllByRecursion (λ key. bytes_eq id key ≡ false) (keys_of es) →
    values_of es ≡ filter (λ (f : Feature). not (bytes_eq f.id id)) (values_of es)
none_out id [] own others = refl
none_out id (e ∷ es) own others =
    let other : bytes_eq e.1.id id ≡ false = turned id e.0 e.1.id (front_is own) ∙ others.0 in
    rw other (ap (λ fs. e.1 ∷ fs) (none_out id es (rest_is own) others.1))

-- and none is replaced
none_new : (f : Feature) (es : List Entry) → keys_of es ≡ ids (values_of es) → AllByRecursion (λ key. bytes_eq f.id key ≡ false) (keys_of es) → values_of es ≡ map (in_place f) (values_of es)
none_new f [] own others = refl
none_new f (e ∷ es) own others =
    let other : bytes_eq e.1.id f.id ≡ false = turned f.id e.0 e.1.id (front_is own) ∙ others.0 in
    rw other (ap (λ fs. e.1 ∷ fs) (none_new f es (rest_is own) others.1))

-- one entry left out, or kept
one_out : (e : Entry) (es rest : List Entry) (fs : List Feature) (b c : Bool) → c ≡ b → (b ≡ true → values_of es ≡ fs) →
    values_of rest ≡ fs → values_of (cond b es (e ∷ rest)) ≡ cond (not c) (e.1 ∷ fs) fs
one_out e es rest fs true true h found others = found refl
one_out e es rest fs true false h found others = absurd (false≢true h)
one_out e es rest fs false true h found others = absurd (true≢false h)
one_out e es rest fs false false h found others = ap (λ vs. e.1 ∷ vs) others

-- one entry replaced, or kept
one_new : (e : Entry) (f : Feature) (es rest : List Entry) (fs : List Feature) (b c : Bool) → c ≡ b →
    (b ≡ true → values_of es ≡ fs) → values_of rest ≡ fs → values_of (cond b ((e.0, f) ∷ es) (e ∷ rest)) ≡ cond c f e.1 ∷ fs
one_new e f es rest fs true true h found others = ap (λ vs. f ∷ vs) (found refl)
one_new e f es rest fs true false h found others = absurd (false≢true h)
one_new e f es rest fs false true h found others = absurd (true≢false h)
one_new e f es rest fs false false h found others = ap (λ vs. e.1 ∷ vs) others

-- keys that differ from the first one differ from an equal one
pub others_too : (id key : List ℕ) (keys : List (List ℕ)) → bytes_eq id key ≡ true →
    AllByRecursion (λ other. bytes_eq key other ≡ false) keys → AllByRecursion (λ other. bytes_eq id other ≡ false) keys
others_too id key keys same others =
    let P : List ℕ → Type 0 = λ k. AllByRecursion (λ other. bytes_eq k other ≡ false) keys in
    subst P (sym ((bytes_eq-Decides id key).0 same)) others

-- the entry with an id goes: the feature with the id goes
pub removed_is : (id : List ℕ) (es : List Entry) → keys_of es ≡ ids (values_of es) → IsDistinct bytes_eq (keys_of es) →
    values_of (remove_entry (bytes_eq id) es) ≡ filter (λ (f : Feature). not (bytes_eq f.id id)) (values_of es)
unfolding IsDistinct
removed_is id [] own differ = refl
removed_is id (e ∷ es) own differ =
    one_out e es (remove_entry (bytes_eq id) es) (filter (λ (f : Feature). not (bytes_eq f.id id)) (values_of es)) (bytes_eq id e.0) (bytes_eq e.1.id id)
    (turned id e.0 e.1.id (front_is own))
    (λ same. none_out id es (rest_is own) (others_too id e.0 (keys_of es) same differ.0))
    (removed_is id es (rest_is own) differ.1)

-- the entry with a feature's id takes it: the feature takes the place of that with its id
pub replaced_is : (f : Feature) (es : List Entry) → keys_of es ≡ ids (values_of es) → IsDistinct bytes_eq (keys_of es) → values_of (set_value (bytes_eq f.id) es f) ≡ map (in_place f) (values_of es)
unfolding IsDistinct
replaced_is f [] own differ = refl
replaced_is f (e ∷ es) own differ =
    one_new e f es (set_value (bytes_eq f.id) es f) (map (in_place f) (values_of es)) (bytes_eq f.id e.0) (bytes_eq e.1.id f.id)
    (turned f.id e.0 e.1.id (front_is own))
    (λ same. none_new f es (rest_is own) (others_too f.id e.0 (keys_of es) same differ.0))
    (replaced_is f es (rest_is own) differ.1)

-- ---- what a look-up finds

-- the first feature of some has the id, or one of the others
first_or_later : (g : Feature) (fs : List Feature) (id : List ℕ) (f : Feature) (k : ℕ) → k < length (g ∷ fs) → get_or (g ∷ fs) k f ≡ f → f.id ≡ id → (g.id ≡ id → ⊥) → HasFeature fs id
first_or_later g fs id f zero lt is same other = absurd (other (ap (λ (h : Feature). h.id) is ∙ same))
first_or_later g fs id f (suc k) lt is same other = (f, (k, omega arith, is), same)

-- whether a feature has the id, or which one
abbrev pub Finds : List Feature → List ℕ → Option Feature → Type 0
Finds fs id found = MatchOption found (¬ (HasFeature fs id)) (λ f. Contains fs f × (f.id ≡ id))

-- one entry more before those that were looked through
finds_more : (g : Feature) (fs : List Feature) (id : List ℕ) (b : Bool) (found : Option Feature) → bytes_eq id g.id ≡ b → Finds fs id found → Finds (g ∷ fs) id (cond b (Some g) found)
finds_more g fs id true found same h = ((0, omega arith, refl), sym ((bytes_eq-Decides id g.id).0 same))
finds_more g fs id false None same h = λ there. h (first_or_later g fs id there.0 there.1.0 there.1.1 there.1.2 there.2 (λ e. true≢false (sym ((bytes_eq-Decides id g.id).1 (sym e)) ∙ same)))
finds_more g fs id false (Some f) same h = ((suc h.0.0, omega arith, h.0.2), h.1)

-- a look-up by an id finds a feature with the id, or none where no feature has it
pub finds : (id : List ℕ) (es : List Entry) → keys_of es ≡ ids (values_of es) → Finds (values_of es) id (lookup (bytes_eq id) es)
finds id [] own = λ there. omega (arith, there.1.1)
finds id (e ∷ es) own = finds_more e.1 (values_of es) id (bytes_eq id e.0) (lookup (bytes_eq id) es) (ap (bytes_eq id) (sym (front_is own))) (finds id es (rest_is own))

-- where no feature has the id, a look-up finds none
finds_none : (fs : List Feature) (id : List ℕ) (found : Option Feature) → Finds fs id found → ¬ (HasFeature fs id) → found ≡ None
finds_none fs id None h none = refl
finds_none fs id (Some f) h none = absurd (none (f, h.0, h.1))

-- a look-up by an id that no feature has finds none
pub found_none : (id : List ℕ) (es : List Entry) → keys_of es ≡ ids (values_of es) → ¬ (HasFeature (values_of es) id) → lookup (bytes_eq id) es ≡ None
found_none id es own none = finds_none (values_of es) id (lookup (bytes_eq id) es) (finds id es own) none

-- and where one has it, it finds one
finds_some : (fs : List Feature) (id : List ℕ) (found : Option Feature) → Finds fs id found → HasFeature fs id → IsSome found
finds_some fs id None h there = absurd (h there)
finds_some fs id (Some f) h there = refl

-- a look-up by an id that a feature has finds one
pub found_some : (id : List ℕ) (es : List Entry) → keys_of es ≡ ids (values_of es) → HasFeature (values_of es) id → IsSome (lookup (bytes_eq id) es)
found_some id es own there = finds_some (values_of es) id (lookup (bytes_eq id) es) (finds id es own) there
