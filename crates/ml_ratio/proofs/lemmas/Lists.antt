-- Lists: what stands in them, as they are mapped, gain an element or lose one, and lists without repeats.
use Rattle.std.proofs.Common.{◌≡◌, ◌≢◌, ℕ, zero, suc, ◌+◌, ◌-◌, ◌<◌, ◌≤◌, List, [], ◌∷◌, ◌++◌, ◌↔◌, length, get_or, set, take, drop, map, Contains, ◌⊎◌, inl, inr, refl, sym, ap, ◌∙◌, subst, arith}
use Rattle.std.specs.Prelude.{insert, remove, AllPairs}
use Rattle.std.proofs.lemmas.Bool.{cases_lt, cases_eq}
use Rattle.std.proofs.lemmas.List.{get_or_default, get_or-map, length-map, take-append-drop, set_split}
use Rattle.std.proofs.lemmas.List.Edits.{length-insert, get_or-insert_below, get_or-insert_at, get_or-insert_above, length-remove, get_or-remove_below, get_or-remove_above}
use Rattle.std.proofs.lemmas.List.Elements.{Contains-append_cases, Contains-append_left, Contains-append_right, All-contains, All-from_recursion}
use Rattle.ml_ratio.specs.Lists.{IsAdded}

-- some element of a list that has one
pub pick : {X : Type 0} (xs : List X) (k : ℕ) → k < length xs → X
pick [] k h = absurd (omega arith)
pick (x ∷ xs) k h = x

-- ---- mapped lists

-- what is read of a mapped list
pub map_read : {A B : Type 0} (f : A → B) (xs : List A) (i : ℕ) (x : A) (e : B) → i < length xs → x ≡ get_or xs i x → get_or (map f xs) i e ≡ f x
map_read f xs i x e lt read = get_or-map f xs i x e lt ∙ ap f (sym read)

-- what an element of a list is mapped to stands in the mapped list
pub contains_map : {A B : Type 0} (f : A → B) (xs : List A) (x : A) → Contains xs x → Contains (map f xs) (f x)
contains_map f xs x there =
    let many = length-map xs f in
    (there.0, rw many there.1, get_or-map f xs there.0 x (f x) there.1 ∙ ap f there.2)

map_contains_at : {A B : Type 0} (f : A → B) (xs : List A) (y : B) (k : ℕ) → k < length (map f xs) → get_or (map f xs) k y ≡ y → (x : A) × Contains xs x × (f x ≡ y)
map_contains_at f [] y k lt e = absurd (omega arith)
map_contains_at f (x ∷ xs) y zero lt e = (x, (0, omega arith, refl), e)
map_contains_at f (x ∷ xs) y (suc k) lt e =
    let rest = map_contains_at f xs y k (omega arith) e in
    let many : rest.1.0 < length xs = rest.1.1 in
    (rest.0, (suc rest.1.0, omega arith, rest.1.2), rest.2)

-- what stands in a mapped list is what some element of the list is mapped to
pub map_contains : {A B : Type 0} (f : A → B) (xs : List A) (y : B) → Contains (map f xs) y → (x : A) × Contains xs x × (f x ≡ y)
map_contains f xs y there = map_contains_at f xs y there.0 there.1 there.2

-- to map a list with an element put in is to map the list and put in what the element is mapped to
pub map_insert : {A B : Type 0} (f : A → B) (xs : List A) (i : ℕ) (x : A) → map f (insert xs i x) ≡ insert (map f xs) i (f x)
map_insert f [] zero y = refl
map_insert f [] (suc i) y = refl
map_insert f (x ∷ xs) zero y = refl
map_insert f (x ∷ xs) (suc i) y = ap (λ ys. f x ∷ ys) (map_insert f xs i y)

-- to map a list without the element at a place is to map the list and take out what stands at that place
pub map_remove : {A B : Type 0} (f : A → B) (xs : List A) (i : ℕ) → map f (remove xs i) ≡ remove (map f xs) i
map_remove f [] zero = refl
map_remove f [] (suc i) = refl
map_remove f (x ∷ xs) zero = refl
map_remove f (x ∷ xs) (suc i) = ap (λ ys. f x ∷ ys) (map_remove f xs i)

-- ---- one element more, and one less

-- an element of a list is the first one or stands behind it
pub contains_cons : {A : Type 0} (x y : A) (xs : List A) → Contains (x ∷ xs) y → (x ≡ y) ⊎ Contains xs y
contains_cons x y xs c =
    elim (Contains-append_cases (x ∷ []) xs y c) [
      | inl one ↦ inl (All-contains (λ z. x ≡ z) (x ∷ []) y (All-from_recursion (λ z. x ≡ z) (x ∷ []) (refl, tt)) one)
      | inr rest ↦ inr rest
    ]

-- what is put in is there
pub contained : {A : Type 0} {x : A} {xs ys : List A} → IsAdded x xs ys → Contains ys x
contained {A} {x} {xs} {ys} a =
    let here : Contains (x ∷ a.after) x = (0, omega arith, refl) in
    subst (λ (l : List A). Contains l x) (sym a.is) (Contains-append_right a.before (x ∷ a.after) x here)

-- the longer list has the new element and those of the shorter one, and no other
pub added_has : {A : Type 0} {x : A} {xs ys : List A} → IsAdded x xs ys → (y : A) → Contains xs y → Contains ys y
added_has {A} {x} a y c =
    subst (λ (l : List A). Contains l y) (sym a.is) (elim (Contains-append_cases a.before a.after y (subst (λ (l : List A). Contains l y) a.was c)) [
      | inl left ↦ Contains-append_left a.before (x ∷ a.after) y left
      | inr right ↦ Contains-append_right a.before (x ∷ a.after) y (Contains-append_right (x ∷ []) a.after y right)
    ])

-- an element of the longer list is the new one or stands in the shorter list
pub added_only : {A : Type 0} {x : A} {xs ys : List A} → IsAdded x xs ys → (y : A) → Contains ys y → (x ≡ y) ⊎ Contains xs y
added_only {A} {x} {xs} a y c =
    elim (Contains-append_cases a.before (x ∷ a.after) y (subst (λ (l : List A). Contains l y) a.is c)) [
      | inl left ↦ inr (subst (λ (l : List A). Contains l y) (sym a.was) (Contains-append_left a.before a.after y left))
      | inr right ↦ elim (contains_cons x y a.after right) [
        | inl same ↦ inl same
        | inr later ↦ inr (subst (λ (l : List A). Contains l y) (sym a.was) (Contains-append_right a.before a.after y later))
      ]
    ]

-- so with one element more there is what there was, and that element
pub comes_in : {A : Type 0} {x : A} {before after : List A} → IsAdded x before after → (y : A) → Contains after y ↔ (Contains before y ⊎ (y ≡ x))
comes_in {A} {x} {before} {after} a y = (
  λ c. elim (added_only a y c) [ inl same ↦ inr (sym same) | inr old ↦ inl old ],
  λ h. elim h [ inl old ↦ added_has a y old | inr same ↦ subst (Contains after) (sym same) (contained a) ],
)

-- and with one less, of which nothing is left, what there was but that element
pub goes_out : {A : Type 0} {x : A} {before after : List A} → IsAdded x after before → ¬ (Contains after x) → (y : A) → Contains after y ↔ (Contains before y × (¬ (y ≡ x)))
goes_out {A} {x} {before} {after} a gone y = (
  λ c. (added_has a y c, λ e. gone (subst (Contains after) e c)),
  λ h. elim (added_only a y h.0) [ inl same ↦ absurd (h.1 (sym same)) | inr old ↦ old ],
)

-- ---- edits at a place

-- a list into which an element is put has that one more
pub added_insert : {A : Type 0} (xs : List A) (i : ℕ) (y : A) → IsAdded y xs (insert xs i y)
added_insert xs i y = record { before = take i xs; after = drop i xs; was = sym (take-append-drop i xs); is = refl }

split_at : {A : Type 0} (xs : List A) (i : ℕ) (y : A) → i < length xs → y ≡ get_or xs i y → xs ≡ take i xs ++ (y ∷ drop (suc i) xs)
split_at [] i y lt e = absurd (omega arith)
split_at (x ∷ xs) zero y lt e = ap (λ z. z ∷ xs) (sym e)
split_at (x ∷ xs) (suc i) y lt e = ap (λ zs. x ∷ zs) (split_at xs i y (omega arith) e)

-- a list has the element that is read at a place more than the list from which it is taken out
pub added_remove : {A : Type 0} (xs : List A) (i : ℕ) (y : A) → i < length xs → y ≡ get_or xs i y → IsAdded y (remove xs i) xs
added_remove xs i y lt e = record { before = take i xs; after = drop (suc i) xs; was = refl; is = split_at xs i y lt e }

-- a list in which an element is written over another has the new one more than the list from which the old one is taken out
pub added_set : {A : Type 0} (xs : List A) (i : ℕ) (y : A) → i < length xs → IsAdded y (remove xs i) (set xs i y)
added_set xs i y lt = record { before = take i xs; after = drop (suc i) xs; was = refl; is = set_split xs i y lt }

-- an element that is put in stands in the list
pub insert_there : {A : Type 0} (xs : List A) (i : ℕ) (x : A) → Contains (insert xs i x) x
insert_there xs i x = contained (added_insert xs i x)

-- what stood in a list still does when an element is put in
pub insert_has : {A : Type 0} (xs : List A) (i : ℕ) (x y : A) → Contains xs y → Contains (insert xs i x) y
insert_has xs i x y there = added_has (added_insert xs i x) y there

-- what stands in a list into which an element was put is that element or stood there before
pub insert_only : {A : Type 0} (xs : List A) (i : ℕ) (x y : A) → Contains (insert xs i x) y → (x ≡ y) ⊎ Contains xs y
insert_only xs i x y there = added_only (added_insert xs i x) y there

-- what stands in a list from which an element was taken out stood there before
pub remove_has : {A : Type 0} (xs : List A) (i : ℕ) (x y : A) → i < length xs → x ≡ get_or xs i x → Contains (remove xs i) y → Contains xs y
remove_has xs i x y lt read there = added_has (added_remove xs i x lt read) y there

-- what stood in a list is the element that is taken out or still stands there
pub remove_only : {A : Type 0} (xs : List A) (i : ℕ) (x y : A) → i < length xs → x ≡ get_or xs i x → Contains xs y → (x ≡ y) ⊎ Contains (remove xs i) y
remove_only xs i x y lt read there = added_only (added_remove xs i x lt read) y there

-- ---- pairs of elements, and lists without repeats

-- a place beyond another is one more than some place
above : (k at : ℕ) → at < k → (m : ℕ) × (k ≡ m + 1) × (at ≤ m)
above k at h = (k - 1, omega arith, omega arith)

-- an element that stands between those that it may follow and those that it may precede
pub all_pairs_insert : {A : Type 0} (R : A → A → Type 0) (xs : List A) (at : ℕ) (x : A) → at ≤ length xs →
    ((k : ℕ) (d : A) → k < at → R (get_or xs k d) x) → ((k : ℕ) (d : A) → at ≤ k → k < length xs → R x (get_or xs k d)) → AllPairs R xs → AllPairs R (insert xs at x)
all_pairs_insert {A} R xs at x le before after pairs i j d less lt =
    let n = length-insert xs at x le in
    elim (cases_lt j at) [
      | inl low ↦ rw (get_or-insert_below xs at x d i (omega arith) le, get_or-insert_below xs at x d j low le) (pairs i j d less (omega arith))
      | inr high ↦ elim (cases_eq j at) [
        | inl here ↦
            let f : get_or (insert xs at x) j d ≡ x = ap (λ k. get_or (insert xs at x) k d) here ∙ get_or-insert_at xs at x d le in
            rw (f, get_or-insert_below xs at x d i (omega arith) le) (before i d (omega arith))
        | inr beyond ↦
            let strict : at < j = (let no : j ≡ at → ⊥ = beyond in omega arith) in
            let p = above j at strict in
            let q : j ≡ p.0 + 1 = p.1 in
            let w : at ≤ p.0 = p.2 in
            let f : get_or (insert xs at x) j d ≡ get_or xs p.0 d = ap (λ k. get_or (insert xs at x) k d) q ∙ get_or-insert_above xs at x d p.0 w le in
            elim (cases_lt i at) [
              | inl low ↦ rw (f, get_or-insert_below xs at x d i low le) (pairs i p.0 d (omega arith) (omega arith))
              | inr up ↦ elim (cases_eq i at) [
                | inl same ↦
                    let e : get_or (insert xs at x) i d ≡ x = ap (λ k. get_or (insert xs at x) k d) same ∙ get_or-insert_at xs at x d le in
                    rw (e, f) (after p.0 d w (omega arith))
                | inr past ↦
                    let more : at < i = (let no : i ≡ at → ⊥ = past in omega arith) in
                    let r = above i at more in
                    let s : i ≡ r.0 + 1 = r.1 in
                    let e : get_or (insert xs at x) i d ≡ get_or xs r.0 d = ap (λ k. get_or (insert xs at x) k d) s ∙ get_or-insert_above xs at x d r.0 r.2 le in
                    rw (e, f) (pairs r.0 p.0 d (omega arith) (omega arith))
              ]
            ]
      ]
    ]

-- a list without repeats, and one more that is not there
pub different_insert : {A : Type 0} (xs : List A) (at : ℕ) (x : A) → at ≤ length xs → ¬ (Contains xs x) → AllPairs (λ one other. one ≢ other) xs → AllPairs (λ one other. one ≢ other) (insert xs at x)
different_insert xs at x le none differ =
    all_pairs_insert (λ one other. one ≢ other) xs at x le
    (λ k d low e. none (k, omega arith, get_or_default xs k x d (omega arith) ∙ e))
    (λ k d high lt e. none (k, lt, get_or_default xs k x d lt ∙ sym e)) differ

-- two places of one element are one
pub same_place : {A : Type 0} (xs : List A) (i j : ℕ) (d : A) → AllPairs (λ one other. one ≢ other) xs → i < length xs → j < length xs → get_or xs i d ≡ get_or xs j d → i ≡ j
same_place xs i j d differ a b e =
    elim (cases_lt i j) [
      | inl less ↦ absurd (differ i j d less b e)
      | inr more ↦ elim (cases_lt j i) [
        | inl less ↦ absurd (differ j i d less a (sym e))
        | inr equal ↦ omega arith
      ]
    ]

-- what goes is not there any more
pub removed_gone : {A : Type 0} (xs : List A) (at : ℕ) (d : A) → at < length xs → AllPairs (λ one other. one ≢ other) xs → ¬ (Contains (remove xs at) (get_or xs at d))
removed_gone xs at d lt differ there =
    let n = length-remove xs at lt in
    let k = there.0 in
    let in' : k < length (remove xs at) = there.1 in
    let e : get_or (remove xs at) k d ≡ get_or xs at d = get_or_default (remove xs at) k d (get_or xs at d) in' ∙ there.2 in
    elim (cases_lt k at) [
      | inl low ↦ absurd (differ k at d low lt (sym (get_or-remove_below xs at d k low lt) ∙ e))
      | inr high ↦
          absurd (differ at (k + 1) d (omega arith) (omega arith) (sym (sym (get_or-remove_above xs at d k high lt) ∙ e)))
    ]
