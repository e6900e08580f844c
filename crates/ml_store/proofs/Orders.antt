-- Orders in which a number moves, and those whose first numbers are in use.
use Rattle.std.proofs.Common.{◌≡◌, ◌≢◌, ℕ, zero, suc, ◌+◌, ◌-◌, ◌<◌, ◌≤◌, List, [], ◌∷◌, length, get_or, take, Contains, inl, inr, refl, sym, ap, ◌∙◌, arith}
use Rattle.std.specs.Prelude.{insert, remove}
use Rattle.std.specs.List.{swap}
use Rattle.std.specs.List.Sorted.{IsPermutation}
use Rattle.std.proofs.lemmas.Bool.{cases_lt, cases_eq}
use Rattle.std.proofs.lemmas.List.{get_or_default, get_or-take, length-take-le, same_lists}
use Rattle.std.proofs.lemmas.List.Edits.{length-insert, get_or-insert_below, get_or-insert_at, get_or-insert_above, length-remove, get_or-remove_below, get_or-remove_above}
use Rattle.std.proofs.lemmas.List.Edits.{length-swap, swapped_from_swap}
use Rattle.std.proofs.lemmas.List.Sorted.{IsPermutation-remove, IsPermutation-insert, IsPermutation-trans, All-permutation}
use Rattle.ml_store.specs.Rows.{AreDifferent}
use Rattle.ml_store.specs.Tiers.{IsOnceEach, AreAll, shifted}
use Rattle.ml_store.specs.Numbers.{IsAt}
use Rattle.ml_store.proofs.Different.{different_remove}
use Rattle.ml_ratio.proofs.lemmas.Lists.{different_insert, removed_gone, same_place}

-- a place beyond another is one more than some place
above : (k at : ℕ) → at < k → (m : ℕ) × (k ≡ m + 1) × (at ≤ m)
above k at h = (k - 1, omega arith, omega arith)

remove_insert : (xs : List ℕ) (at x : ℕ) → at ≤ length xs → remove (insert xs at x) at ≡ xs
remove_insert [] zero x le = refl
remove_insert [] (suc at) x le = absurd (omega arith)
remove_insert (y ∷ xs) zero x le = refl
remove_insert (y ∷ xs) (suc at) x le = ap (λ l. y ∷ l) (remove_insert xs at x (omega arith))

-- a shift leaves the order as long as it was
pub length-shifted : (order : List ℕ) (from to : ℕ) → from < length order → to < length order → length (shifted order from to) ≡ length order
length-shifted order from to a b =
    let n = length-remove order from a in
    let m = length-insert (remove order from) to (get_or order from 0) (omega arith) in
    omega arith

-- a shift keeps all numbers and changes their places alone
pub permutation_shifted : (order : List ℕ) (from to : ℕ) → from < length order → IsPermutation order (shifted order from to)
permutation_shifted order from to lt =
    IsPermutation-trans order _ _ (IsPermutation-remove order from (get_or order from 0) lt (get_or_default order from 0 (get_or order from 0) lt))
    (IsPermutation-insert (remove order from) to (get_or order from 0))

-- different numbers still differ after a shift
pub different_shifted : (order : List ℕ) (from to : ℕ) → from < length order → to < length order → AreDifferent order → AreDifferent (shifted order from to)
different_shifted order from to a b differ =
    let n = length-remove order from a in
    different_insert (remove order from) to (get_or order from 0) (omega arith) (removed_gone order from 0 a differ) (different_remove order from a differ)

-- what stands before both places stays
shifted_left : (order : List ℕ) (from to k d : ℕ) → from < length order → to < length order → k < from → k < to → get_or (shifted order from to) k d ≡ get_or order k d
shifted_left order from to k d a b lt lt' =
    let n = length-remove order from a in
    get_or-insert_below (remove order from) to (get_or order from 0) d k lt' (omega arith) ∙ get_or-remove_below order from d k lt a

-- what stands behind both places stays
shifted_right : (order : List ℕ) (from to k d : ℕ) → from < length order → to < length order → from < k → to < k → get_or (shifted order from to) k d ≡ get_or order k d
shifted_right order from to k d a b lt lt' =
    let n = length-remove order from a in
    let p = above k to lt' in
    let q : k ≡ p.0 + 1 = p.1 in
    ap (λ m. get_or (shifted order from to) m d) q ∙ get_or-insert_above (remove order from) to (get_or order from 0) d p.0 p.2 (omega arith)
    ∙ get_or-remove_above order from d p.0 (omega arith) a ∙ sym (ap (λ m. get_or order m d) q)

-- the number that is moved stands at `to`
shifted_at : (order : List ℕ) (from to d : ℕ) → from < length order → to < length order → get_or (shifted order from to) to d ≡ get_or order from 0
shifted_at order from to d a b =
    let n = length-remove order from a in
    get_or-insert_at (remove order from) to (get_or order from 0) d (omega arith)

-- a list is the order with a number moved back, if it has this at each place
pub is_moved_back : (order now : List ℕ) (from to : ℕ) → from < length order → to ≤ from → length now ≡ length order → ((k d : ℕ) → k < to → get_or now k d ≡ get_or order k d) →
    ((d : ℕ) → get_or now to d ≡ get_or order from d) → ((k d : ℕ) → to ≤ k → k < from → get_or now (k + 1) d ≡ get_or order k d) →
    ((k d : ℕ) → from < k → k < length order → get_or now k d ≡ get_or order k d) → now ≡ shifted order from to
is_moved_back order now from to lt le many before here between behind =
    let size = length-shifted order from to lt (omega arith) in
    let left = length-remove order from lt in
    same_lists now (shifted order from to) (omega arith) (λ k d h.
    elim (cases_lt k to) [
      | inl low ↦ before k d low ∙ sym (shifted_left order from to k d lt (omega arith) (omega arith) low)
      | inr high ↦ elim (cases_eq k to) [
        | inl same ↦ rw same (here d ∙ get_or_default order from d 0 lt ∙ sym (shifted_at order from to d lt (omega arith)))
        | inr past ↦
            let more : to < k = (let no : k ≢ to = past in omega arith) in
            elim (cases_lt from k) [
              | inl far ↦ behind k d far (omega arith) ∙ sym (shifted_right order from to k d lt (omega arith) far more)
              | inr near ↦
                  let p = above k to more in
                  let q : k ≡ p.0 + 1 = p.1 in
                  let w : to ≤ p.0 = p.2 in
                  rw q (between p.0 d w (omega arith) ∙ sym (get_or-insert_above (remove order from) to (get_or order from 0) d p.0 w (omega arith)
                  ∙ get_or-remove_below order from d p.0 (omega arith) lt))
            ]
      ]
    ])

-- a list is the order with a number moved on, if it has this at each place
pub is_moved_on : (order now : List ℕ) (from to : ℕ) → to < length order → from ≤ to → length now ≡ length order → ((k d : ℕ) → k < from → get_or now k d ≡ get_or order k d) →
    ((d : ℕ) → get_or now to d ≡ get_or order from d) → ((k d : ℕ) → from ≤ k → k < to → get_or now k d ≡ get_or order (k + 1) d) →
    ((k d : ℕ) → to < k → k < length order → get_or now k d ≡ get_or order k d) → now ≡ shifted order from to
is_moved_on order now from to lt le many before here between behind =
    let size = length-shifted order from to (omega arith) lt in
    let left = length-remove order from (omega arith) in
    same_lists now (shifted order from to) (omega arith) (λ k d h.
    elim (cases_lt k from) [
      | inl low ↦ before k d low ∙ sym (shifted_left order from to k d (omega arith) lt low (omega arith))
      | inr high ↦ elim (cases_lt k to) [
        | inl near ↦
            between k d high near ∙ sym (get_or-insert_below (remove order from) to (get_or order from 0) d k near (omega arith) ∙ get_or-remove_above order from d k high (omega arith))
        | inr far ↦ elim (cases_eq k to) [
          | inl same ↦ rw same (here d ∙ get_or_default order from d 0 (omega arith) ∙ sym (shifted_at order from to d (omega arith) lt))
          | inr past ↦
              let more : to < k = (let no : k ≢ to = past in omega arith) in
              behind k d more (omega arith) ∙ sym (shifted_right order from to k d (omega arith) lt (omega arith) more)
        ]
      ]
    ])

-- a number that is moved to its own place
pub shifted_same : (order : List ℕ) (at : ℕ) → at < length order → order ≡ shifted order at at
shifted_same order at lt =
    is_moved_back order order at at lt (omega arith) refl (λ k d h. refl) (λ d. refl) (λ k d h g. absurd (omega arith)) (λ k d h g. refl)

-- a number that is moved twice
pub shifted_twice : (order : List ℕ) (from at to : ℕ) → from < length order → at < length order → shifted (shifted order from at) at to ≡ shifted order from to
shifted_twice order from at to a b =
    let left = length-remove order from a in
    let x : ℕ = get_or order from 0 in
    let out : remove (shifted order from at) at ≡ remove order from = remove_insert (remove order from) at x (omega arith) in
    let has : get_or (shifted order from at) at 0 ≡ x = shifted_at order from at 0 a b in
    (λ i. insert (out i) to (has i))

-- and when it is moved step by step
pub moved_more : (old now new : List ℕ) (from at to one other : ℕ) → from < length old → at < length old → now ≡ shifted old from at → new ≡ shifted now one other → one ≡ at → other ≡ to →
    new ≡ shifted old from to
moved_more old now new from at to one other a b before step e f = step ∙ (λ i. shifted (before i) (e i) (f i)) ∙ shifted_twice old from at to a b

-- two neighbours that change places: the second one moves back
pub swapped_back : (order : List ℕ) (at : ℕ) → 0 < at → at < length order → swap order at (at - 1) ≡ shifted order at (at - 1)
swapped_back order at some lt =
    let is = (λ (d : ℕ). swapped_from_swap order (swap order at (at - 1)) at (at - 1) d lt (omega arith) refl) in
    is_moved_back order (swap order at (at - 1)) at (at - 1) lt (omega arith) (length-swap order at (at - 1))
    (λ k d h. (is d).2 k (λ e. omega arith) (λ e. omega arith)) (λ d. (is d).1)
    (λ k d h g. let e : k + 1 ≡ at = omega arith in let f : at - 1 ≡ k = omega arith in ap (λ m. get_or (swap order at (at - 1)) m d) e ∙ (is d).0 ∙ ap (λ m. get_or order m d) f)
    (λ k d h g. (is d).2 k (λ e. omega arith) (λ e. omega arith))

-- two neighbours that change places: the first one moves on
pub swapped_on : (order : List ℕ) (k : ℕ) → k + 1 < length order → swap order k (k + 1) ≡ shifted order k (k + 1)
swapped_on order k lt =
    let at = (λ (d : ℕ). swapped_from_swap order (swap order k (k + 1)) k (k + 1) d (omega arith) lt refl) in
    is_moved_on order (swap order k (k + 1)) k (k + 1) lt (omega arith) (length-swap order k (k + 1))
    (λ j d h. (at d).2 j (λ e. omega arith) (λ e. omega arith)) (λ d. (at d).1)
    (λ j d h g. let e : j ≡ k = omega arith in rw e ((at d).0)) (λ j d h g. (at d).2 j (λ e. omega arith) (λ e. omega arith))

-- a shift keeps all numbers
pub all_shifted : (order : List ℕ) (from to : ℕ) → AreAll order → from < 32768 → to < 32768 → AreAll (shifted order from to)
unfolding IsOnceEach
all_shifted order from to all a b =
    let n : length order ≡ 32768 = all.many in
    record {
      many = length-shifted order from to (omega arith) (omega arith) ∙ n;
      low = All-permutation (λ m. m < 32768) order (shifted order from to) (permutation_shifted order from to (omega arith)) all.low;
      once = different_shifted order from to (omega arith) (omega arith) all.once;
    }

-- the first of them are different
pub different_first : (order : List ℕ) (used : ℕ) → AreAll order → used ≤ 32768 → AreDifferent (take used order)
unfolding IsOnceEach
different_first order used all few i j d less lt e =
    let many : length order ≡ 32768 = all.many in
    let size = length-take-le used order (omega arith) in
    let in' : j < used = omega arith in
    all.once i j d less (omega arith) (sym (get_or-take used order i d (omega arith)) ∙ e ∙ get_or-take used order j d in')

-- what stands before `used` is in use
pub used_at : (order : List ℕ) (used k n : ℕ) → used ≤ length order → k < used → get_or order k 0 ≡ n → IsAt (take used order) n k
used_at order used k n le lt e =
    let len = length-take-le used order le in
    (omega arith, get_or-take used order k 0 lt ∙ e)

-- what stands from `used` on is free
pub unused : (order : List ℕ) (used k n : ℕ) → AreAll order → used ≤ k → k < length order → get_or order k 0 ≡ n → ¬ (Contains (take used order) n)
unfolding IsOnceEach
unused order used k n all le lt e there =
    let size = length-take-le used order (omega arith) in
    let less : there.0 < used = (let h : there.0 < length (take used order) = there.1 in omega arith) in
    let f : get_or order there.0 0 ≡ n = get_or_default order there.0 0 n (omega arith) ∙ sym (get_or-take used order there.0 n less) ∙ there.2 in
    let same : there.0 ≡ k = same_place order there.0 k 0 all.once (omega arith) lt (f ∙ sym e) in
    absurd (omega arith)

-- no number from 32,768 on is in use
pub unused_high : (order : List ℕ) (used n : ℕ) → AreAll order → used ≤ 32768 → 32768 ≤ n → ¬ (Contains (take used order) n)
unused_high order used n all few high there =
    let many : length order ≡ 32768 = all.many in
    let size = length-take-le used order (omega arith) in
    let less : there.0 < used = (let h : there.0 < length (take used order) = there.1 in omega arith) in
    let e : get_or order there.0 n ≡ n = sym (get_or-take used order there.0 n less) ∙ there.2 in
    let low : get_or order there.0 n < 32768 = all.low there.0 n (omega arith) in
    absurd (omega arith)

-- a free number stands from `used` on
pub place_free : (order : List ℕ) (used k n : ℕ) → used ≤ length order → get_or order k 0 ≡ n → ¬ (Contains (take used order) n) → used ≤ k
place_free order used k n le e free =
    elim (cases_lt k used) [
      | inl less ↦
          let is = used_at order used k n le less e in
          absurd (free (k, is.0, get_or_default (take used order) k n 0 is.0 ∙ is.1))
      | inr more ↦ more
    ]

-- a number behind those in use is now one of them
pub taken_in : (order : List ℕ) (used at from n : ℕ) → from < length order → at ≤ used → used ≤ from → get_or order from 0 ≡ n → take (used + 1) (shifted order from at) ≡ insert (take used order) at n
taken_in order used at from n lt le free e =
    let r = length-remove order from lt in
    let many = length-shifted order from at lt (omega arith) in
    let left = length-take-le (used + 1) (shifted order from at) (omega arith) in
    let len = length-take-le used order (omega arith) in
    let right = length-insert (take used order) at n (omega arith) in
    same_lists (take (used + 1) (shifted order from at)) (insert (take used order) at n) (omega arith) (λ k d h.
    let in' : k < used + 1 = omega arith in
    get_or-take (used + 1) (shifted order from at) k d in' ∙
    elim (cases_lt k at) [
      | inl low ↦
          shifted_left order from at k d lt (omega arith) (omega arith) low
          ∙ sym (get_or-take used order k d (omega arith)) ∙ sym (get_or-insert_below (take used order) at n d k low (omega arith))
      | inr high ↦ elim (cases_eq k at) [
        | inl here ↦
            rw here (get_or-insert_at (remove order from) at (get_or order from 0) d (omega arith) ∙ e ∙ sym (get_or-insert_at (take used order) at n d (omega arith)))
        | inr past ↦
            let more : at < k = (let no : k ≢ at = past in omega arith) in
            let p = above k at more in
            let q : k ≡ p.0 + 1 = p.1 in
            let w : at ≤ p.0 = p.2 in
            rw q (get_or-insert_above (remove order from) at (get_or order from 0) d p.0 w (omega arith)
            ∙ get_or-remove_below order from d p.0 (omega arith) lt
            ∙ sym (get_or-take used order p.0 d (omega arith))
            ∙ sym (get_or-insert_above (take used order) at n d p.0 w (omega arith)))
      ]
    ])

-- one of those in use now stands behind them
pub taken_out : (order : List ℕ) (used at : ℕ) → used ≤ length order → at < used → take (used - 1) (shifted order at (used - 1)) ≡ remove (take used order) at
taken_out order used at le lt =
    let r = length-remove order at (omega arith) in
    let many = length-shifted order at (used - 1) (omega arith) (omega arith) in
    let left = length-take-le (used - 1) (shifted order at (used - 1)) (omega arith) in
    let len = length-take-le used order le in
    let right = length-remove (take used order) at (omega arith) in
    same_lists (take (used - 1) (shifted order at (used - 1))) (remove (take used order) at) (omega arith) (λ k d h.
    let in' : k < used - 1 = omega arith in
    get_or-take (used - 1) (shifted order at (used - 1)) k d in'
    ∙ get_or-insert_below (remove order at) (used - 1) (get_or order at 0) d k in' (omega arith)
    ∙ elim (cases_lt k at) [
      | inl low ↦ get_or-remove_below order at d k low (omega arith) ∙ sym (get_or-take used order k d (omega arith)) ∙ sym (get_or-remove_below (take used order) at d k low (omega arith))
      | inr high ↦ get_or-remove_above order at d k high (omega arith) ∙ sym (get_or-take used order (k + 1) d (omega arith)) ∙ sym (get_or-remove_above (take used order) at d k high (omega arith))
    ])
