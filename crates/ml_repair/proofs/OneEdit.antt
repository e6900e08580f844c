-- The changes of an edit are one list, and its cost is one number.
use Rattle.std.proofs.Common.{◌≡◌, ℕ, suc, ◌+◌, ◌-◌, ◌<◌, List, [], ◌∷◌, length, get_or, map, Contains, inl, inr, refl, sym, ap, ◌∙◌, subst, arith, Bool, true, false}
use Rattle.std.specs.Prelude.{◌≢◌, ◌≤◌, not, remove, nat_lt, if◌then◌else◌}
use Rattle.std.specs.Ordering.{nat_cmp}
use Rattle.std.specs.Cmp.Lexicographic.{slice_cmp}
use Rattle.std.specs.List.Sorted.{IsStrictlySortedBy}
use Rattle.std.specs.declared.cmp.Ordering.TheVariants.{Less}
use Rattle.std.proofs.lemmas.Bool.{cases_lt, cases_eq, cases_order}
use Rattle.std.proofs.lemmas.Bool.Decides.{nat_tests}
use Rattle.std.proofs.lemmas.Cmp.{nat_list_cmp_total, tied_itself}
use Rattle.std.proofs.lemmas.List.{length-map, get_or-map}
use Rattle.std.proofs.lemmas.List.Edits.{length-remove}
use Rattle.std.proofs.lemmas.Map.Keys.{sorted_tail, Less-from_sorted}
use Rattle.ml_ratio.specs.Fraction.{Fraction, IsSame}
use Rattle.ml_ratio.proofs.lemmas.Fractions.{same_trans}
use Rattle.ml_ratio.proofs.lemmas.Lists.{contains_cons, pick}
use Rattle.ml_cone.specs.Choice.{Choice, IsLongest}
use Rattle.ml_cone.specs.Label.{IsLabelList}
use Rattle.ml_cone.specs.Places.{IsPlaceOf}
use Rattle.ml_cone.specs.declared.label.Label.{Label}
use Rattle.ml_cone.specs.declared.slot.Slot.{Slot}
use Rattle.ml_watch.specs.declared.change.Change.{Change}
use Rattle.ml_repair.specs.Changes.{AreChanges, IsChange}
use Rattle.ml_repair.specs.Cost.{AreTouchedBy, IsCost}
use Rattle.ml_repair.specs.Touched.{IsTouched, IsHit, IsLongestIf, left_out, AreTouched}
use Rattle.ml_repair.proofs.Sizes.{size_once, size_same}

-- ---- lists in strict order of their ids

-- the changes are in byte order of their ids, each id once
abbrev pub Rise : List Change → Type 0
Rise changes = IsStrictlySortedBy (slice_cmp nat_cmp) (map (λ (c : Change). c.id) changes)

first_less : (x y : Change) (xs : List Change) → Rise (x ∷ xs) → Contains xs y → slice_cmp nat_cmp x.id y.id ≡ Less
first_less x y xs rise there =
    let n = length-map xs (λ (c : Change). c.id) in
    let lt : there.0 < length xs = there.1 in
    let e : get_or (map (λ (c : Change). c.id) xs) there.0 y.id ≡ y.id = get_or-map (λ (c : Change). c.id) xs there.0 y y.id lt ∙ ap (λ (c : Change). c.id) there.2 in
    subst (λ (id : List ℕ). slice_cmp nat_cmp x.id id ≡ Less) e
    (Less-from_sorted (slice_cmp nat_cmp) (map (λ (c : Change). c.id) (x ∷ xs)) 0 (suc there.0) y.id rise (omega arith) (omega arith))

not_first : (x y : Change) (xs : List Change) → Rise (x ∷ xs) → Contains xs y → x ≡ y → ⊥
not_first x y xs rise there e =
    let less = first_less x y xs rise there in
    let tie = tied_itself nat_list_cmp_total x.id in
    let f : slice_cmp nat_cmp x.id y.id ≡ slice_cmp nat_cmp x.id x.id = ap (λ (c : Change). slice_cmp nat_cmp x.id c.id) (sym e) in
    cc

not_both : (x y : Change) → slice_cmp nat_cmp x.id y.id ≡ Less → slice_cmp nat_cmp y.id x.id ≡ Less → ⊥
not_both x y a b =
    let less = nat_list_cmp_total.trans x.id y.id x.id a b in
    let tie = tied_itself nat_list_cmp_total x.id in
    cc

-- changes in order of their ids are one list where they have the same members
pub same_list : (xs ys : List Change) → Rise xs → Rise ys → ((c : Change) → Contains xs c → Contains ys c) → ((c : Change) → Contains ys c → Contains xs c) → xs ≡ ys
same_list [] [] p q to from = refl
same_list [] (y ∷ ys) p q to from = absurd (let h = from y (0, omega arith, refl) in let lt : h.0 < 0 = h.1 in omega arith)
same_list (x ∷ xs) [] p q to from = absurd (let h = to x (0, omega arith, refl) in let lt : h.0 < 0 = h.1 in omega arith)
same_list (x ∷ xs) (y ∷ ys) p q to from =
    let e : x ≡ y = elim (contains_cons y x ys (to x (0, omega arith, refl))) [
      | inl same ↦ sym same
      | inr later ↦ elim (contains_cons x y xs (from y (0, omega arith, refl))) [
        | inl same ↦ same
        | inr later' ↦ absurd (not_both x y (first_less x y xs p later') (first_less y x ys q later))
      ]
    ] in
    let more : (zs : List Change) (z w : Change) → Contains zs z → Contains (w ∷ zs) z = λ zs z w there. (suc there.0, (let lt : there.0 < length zs = there.1 in omega arith), there.2) in
    let rest = same_list xs ys (sorted_tail (slice_cmp nat_cmp) x.id (map (λ (c : Change). c.id) xs) p) (sorted_tail (slice_cmp nat_cmp) y.id (map (λ (c : Change). c.id) ys) q)
    (λ z there. elim (contains_cons y z ys (to z (more xs z x there))) [
      | inl same ↦ absurd (not_first x z xs p there (e ∙ same))
      | inr later ↦ later
    ])
    (λ z there. elim (contains_cons x z xs (from z (more ys z y there))) [
      | inl same ↦ absurd (not_first y z ys q there (sym e ∙ same))
      | inr later ↦ later
    ]) in
    ap (λ (c : Change). c ∷ xs) e ∙ ap (λ (cs : List Change). y ∷ cs) rest

-- an edit has one list of changes
pub one_changes : (labels : List Label) (slots : List Slot) (new_labels : List Label) (new_slots : List Slot) (changes others : List Change) →
    AreChanges labels slots new_labels new_slots changes → AreChanges labels slots new_labels new_slots others → changes ≡ others
one_changes labels slots new_labels new_slots changes others a b =
    same_list changes others a.ascending b.ascending
    (λ c there. b.whole c (subst (IsChange labels slots new_labels new_slots) there.2 (a.sound there.0 c there.1)))
    (λ c there. a.whole c (subst (IsChange labels slots new_labels new_slots) there.2 (b.sound there.0 c there.1)))

-- ---- costs

-- a place beyond another is one more than some place
above : (k at : ℕ) → at < k → (m : ℕ) × (k ≡ m + 1) × (at ≤ m)
above k at h = (k - 1, omega arith, omega arith)

-- the law: two longest choices of the same labels have the same end at each label
abbrev pub OneLongest : Type 0
OneLongest = (labels : List Label) (one other : Choice) → IsLongest labels one → IsLongest labels other → (i : ℕ) → i < length labels → IsSame (one i) (other i)

left_below : (at : ℕ) (c : Choice) (k : ℕ) → k < at → left_out at c k ≡ c k
left_below at c k lt = let e : nat_lt k at ≡ true = grind (arith, nat_tests) in ap (λ (b : Bool). if b then c k else c (k + 1)) e

left_above : (at : ℕ) (c : Choice) (k : ℕ) → at ≤ k → left_out at c k ≡ c (k + 1)
left_above at c k le = let e : nat_lt k at ≡ false = grind (arith, nat_tests) in ap (λ (b : Bool). if b then c k else c (k + 1)) e

module _ (law : OneLongest) (labels : List Label) (at : ℕ) (is_place : at < length labels) where
  -- a choice of all labels, or of all but that at the place, is one by value at each other place
  alike : (there : Bool) (one other : Choice) → IsLongestIf there labels at one → IsLongestIf there labels at other → (j : ℕ) → j < length labels → j ≢ at → IsSame (one j) (other j)
  alike true one other a b j within apart = law labels one other a b j within
  alike false one other a b j within apart =
      let n = length-remove labels at is_place in
      elim (cases_lt j at) [
        | inl less ↦
            let same = law (remove labels at) (left_out at one) (left_out at other) a b j (omega arith) in
            subst (λ (f : Fraction). IsSame (one j) f) (left_below at other j less) (subst (λ (f : Fraction). IsSame f (left_out at other j)) (left_below at one j less) same)
        | inr more ↦
            let beyond : at < j = (let no : j ≡ at → ⊥ = apart in omega arith) in
            let p = above j at beyond in
            let same = law (remove labels at) (left_out at one) (left_out at other) a b p.0 (let e : j ≡ p.0 + 1 = p.1 in omega arith) in
            rw p.1 (subst (λ (f : Fraction). IsSame (one (p.0 + 1)) f) (left_above at other p.0 p.2) (subst (λ (f : Fraction). IsSame f (left_out at other p.0)) (left_above at one p.0 p.2) same))
      ]

  touched_so : (comes : Bool) (n m : ℕ) (s : AreTouched labels at comes n) (t : AreTouched labels at comes m) →
      (i : ℕ) → IsTouched labels at comes s.before s.after i → IsTouched labels at comes t.before t.after i
  touched_so comes n m s t i touched = (
    touched.0,
    elim touched.1 [
      | inl here ↦ inl here
      | inr hit ↦ inr (hit.0, hit_so hit.1)
    ],
  )
    where
      hit_so : IsHit labels at s.before s.after i → IsHit labels at t.before t.after i
      hit_so hit = (
        hit.0,
        hit.1,
        elim (cases_eq hit.0 at) [
          | inl same ↦ inl same
          | inr apart ↦ elim hit.2 [
            | inl same ↦ inl same
            | inr differ ↦ inr (λ same.
                let lt : hit.0 < i = hit.1.0 in
                let within : hit.0 < length labels = (let h : i < length labels = touched.0 in omega arith) in
                let p = alike (not comes) s.before t.before s.longest_before t.longest_before hit.0 within apart in
                let q = alike comes s.after t.after s.longest_after t.longest_after hit.0 within apart in
                differ (same_trans (s.before hit.0) (t.after hit.0) (s.after hit.0) (same_trans (s.before hit.0) (t.before hit.0) (t.after hit.0) p same) (sym q)))
          ]
        ],
      )

  -- as a label comes or goes, one number of labels is touched, whichever longest choices tell it
  pub touched_once : (comes : Bool) (n m : ℕ) → AreTouched labels at comes n → AreTouched labels at comes m → n ≡ m
  touched_once comes n m s t =
      size_once (IsTouched labels at comes t.before t.after) n m
      (size_same (IsTouched labels at comes s.before s.after) (IsTouched labels at comes t.before t.after) n (λ i. (touched_so comes n m s t i, touched_so comes m n t s i)) s.size) t.size

one_place : (labels : List Label) (id : List ℕ) (i j : ℕ) → IsLabelList labels → IsPlaceOf labels id i → IsPlaceOf labels id j → i ≡ j
one_place labels id i j up p q =
    let d = pick labels i p.0 in
    elim (cases_order i j) [
      | inl same ↦ same
      | inr (inl less) ↦ absurd ((up i j d less q.0).1 (p.1 d ∙ sym (q.1 d)))
      | inr (inr more) ↦ absurd ((up j i d more p.0).1 (q.1 d ∙ sym (p.1 d)))
    ]

touched_by_once : OneLongest → (labels : List Label) (id : List ℕ) (comes : Bool) (n m : ℕ) → IsLabelList labels → AreTouchedBy labels id comes n → AreTouchedBy labels id comes m → n ≡ m
touched_by_once law labels id comes n m up (inl a) (inl b) =
    let e : b.0 ≡ a.0 = one_place labels id b.0 a.0 up b.1 a.1 in
    touched_once law labels a.0 a.1.0 comes n m a.2 (subst (λ (k : ℕ). AreTouched labels k comes m) e b.2)
touched_by_once law labels id comes n m up (inl a) (inr b) = absurd (b.0 a.0 a.1)
touched_by_once law labels id comes n m up (inr a) (inl b) = absurd (a.0 b.0 b.1)
touched_by_once law labels id comes n m up (inr a) (inr b) = a.1 ∙ sym b.1

-- an edit has one cost
pub one_cost : OneLongest → (before after : List Label) (id : List ℕ) (n m : ℕ) → IsLabelList before → IsLabelList after → IsCost before after id n → IsCost before after id m → n ≡ m
one_cost law before after id n m up down a b =
    let p = touched_by_once law before id false a.gone b.gone up a.touched_gone b.touched_gone in
    let q = touched_by_once law after id true a.come b.come down a.touched_come b.touched_come in
    let e = a.both in let f = b.both in
    omega arith
