-- The ranks of numbers are their places in the sorted list.
use Rattle.std.proofs.Common.{◌≡◌, ℕ, ◌+◌, ◌-◌, ◌*◌, ◌/◌, ◌<◌, ◌≤◌, List, [], ◌∷◌, length, take, ℤ, pos, ◌-ℤ◌, ◌<ℤ◌, ◌≤ℤ◌, Bool, true, false, cond, zero, suc, refl, sym, ap, ◌∙◌, inl, inr, arith}
use Rattle.std.specs.Prelude.{int_lt, int_le}
use Rattle.std.specs.List.{count_by}
use Rattle.std.specs.Ordering.{int_eq, int_cmp, is_lt}
use Rattle.std.specs.List.Sorted.{IsPermutation, IsSorted}
use Rattle.std.proofs.lemmas.Int.{ints}
use Rattle.std.proofs.lemmas.Cmp.{int_cmp_total}
use Rattle.std.proofs.lemmas.Bool.{cases_Bool, cases_lt, false≢true}
use Rattle.std.proofs.lemmas.Bool.Decides.{Decides-int_eq}
use Rattle.std.proofs.lemmas.List.Sums.{sum_by-cons, sum_by-take-le, count_by-le-length, count_by_more_yes}
use Rattle.std.proofs.lemmas.List.Sorted.{sorted_far, ranks_by, sum_by-IsPermutation}
use Rattle.ml_anchor.specs.Best.{IsFirstGreatest}
use Rattle.ml_anchor.specs.Pairs.{at, rank, gap, pair_gap, IsInsidePair, IsWidestPair}

-- the numbers ascend
abbrev pub IsRising : List ℤ → Type 0
IsRising ys = (i j : ℕ) → i ≤ j → j < length ys → at ys i ≤ℤ at ys j

not_less : (x y : ℤ) → is_lt (int_cmp y x) ≡ false → x ≤ℤ y
not_less x y h = grind (arith, ints)

-- what a sort says
pub rising_from_sort : (ys : List ℤ) → IsSorted int_cmp ys → IsRising ys
rising_from_sort ys h i j k m =
    let f = sorted_far (λ x y. is_lt (int_cmp x y)) (ranks_by int_cmp_total (λ x. x)) ys h i j (pos 0) k m in
    not_less (at ys i) (at ys j) f

-- the test holds below each number that it holds of
abbrev pub IsDownward : (ℤ → Bool) → Type 0
IsDownward p = (x y : ℤ) → x ≤ℤ y → p y ≡ true → p x ≡ true

count_cons : (p : ℤ → Bool) (x : ℤ) (xs : List ℤ) → count_by p (x ∷ xs) ≡ cond (p x) 1 0 + count_by p xs
count_cons p x xs = sum_by-cons (λ y. cond (p y) 1 0) x xs

tail_rises : (y : ℤ) (ys : List ℤ) → IsRising (y ∷ ys) → IsRising ys
tail_rises y ys up i j h k = up (suc i) (suc j) (omega arith) (omega arith)

one_passes : (p : ℤ → Bool) (x : ℤ) (xs : List ℤ) → p x ≡ true → count_by p (x ∷ xs) ≡ 1 + count_by p xs
one_passes p x xs e = count_cons p x xs ∙ ap (λ (b : Bool). cond b 1 0 + count_by p xs) e

one_fails : (p : ℤ → Bool) (x : ℤ) (xs : List ℤ) → p x ≡ false → count_by p (x ∷ xs) ≡ 0 + count_by p xs
one_fails p x xs e = count_cons p x xs ∙ ap (λ (b : Bool). cond b 1 0 + count_by p xs) e

both_ways : (b : Bool) → b ≡ true → b ≡ false → ⊥
both_ways b t f = false≢true (sym f ∙ t)

-- in ascending numbers the first ones pass a downward test, as many as pass in all
pub first_pass : (p : ℤ → Bool) (ys : List ℤ) → IsDownward p → IsRising ys → (k : ℕ) → k < count_by p ys → p (at ys k) ≡ true
first_pass p [] down up k h = absurd (omega arith)
first_pass p (y ∷ ys) down up zero h =
    elim (cases_Bool (p y)) [
      | inl t ↦ t
      | inr f ↦
          let n : 0 < count_by p ys = omega (arith, one_fails p y ys f) in
          let s : 0 < length ys = omega (arith, count_by-le-length p ys) in
          down y (at ys 0) (up 0 1 (omega arith) (omega arith)) (first_pass p ys down (tail_rises y ys up) 0 n)
    ]
first_pass p (y ∷ ys) down up (suc k) h =
    let n : k < count_by p ys = elim (cases_Bool (p y)) [
      | inl t ↦ omega (arith, one_passes p y ys t)
      | inr f ↦ omega (arith, one_fails p y ys f)
    ] in
    first_pass p ys down (tail_rises y ys up) k n

-- in ascending numbers all others, behind as many as pass, fail a downward test
pub others_fail : (p : ℤ → Bool) (ys : List ℤ) → IsDownward p → IsRising ys → (k : ℕ) → k < length ys → count_by p ys ≤ k → p (at ys k) ≡ false
others_fail p [] down up k m h = absurd (omega arith)
others_fail p (y ∷ ys) down up zero m h =
    elim (cases_Bool (p y)) [
      | inl t ↦ absurd (omega (arith, one_passes p y ys t))
      | inr f ↦ f
    ]
others_fail p (y ∷ ys) down up (suc k) m h =
    elim (cases_Bool (p y)) [
      | inl t ↦ others_fail p ys down (tail_rises y ys up) k (omega arith) (omega (arith, one_passes p y ys t))
      | inr f ↦
          elim (cases_Bool (p (at ys k))) [
            | inl t ↦ absurd (both_ways (p y) (down y (at ys k) (up 0 (suc k) (omega arith) (omega arith)) t) f)
            | inr g ↦ g
          ]
    ]

-- ---- what is less than a number, and what is at most it
between : (x v : ℤ) → int_le x v ≡ true → int_lt x v ≡ false → x ≡ v
between x v a b = grind (arith, ints)

less_down : (v : ℤ) → IsDownward (λ x. int_lt x v)
less_down v x y h e = grind (arith, ints)

most_down : (v : ℤ) → IsDownward (λ x. int_le x v)
most_down v x y h e = grind (arith, ints)

each_splits : (x v : ℤ) → cond (int_le x v) 1 0 ≡ cond (int_lt x v) 1 0 + cond (int_eq x v) 1 0
each_splits x v = grind (arith, ints)

-- at most a number are those less than it and those equal to it
at_most_splits : (v : ℤ) (xs : List ℤ) → count_by (λ x. int_le x v) xs ≡ count_by (λ x. int_lt x v) xs + count_by (λ x. int_eq x v) xs
at_most_splits v [] = refl
at_most_splits v (x ∷ xs) =
    let ih = at_most_splits v xs in
    let a = count_cons (λ y. int_le y v) x xs in
    let b = count_cons (λ y. int_lt y v) x xs in
    let c = count_cons (λ y. int_eq y v) x xs in
    let e = each_splits x v in
    omega (arith, ih, a, b, c, e)

equal_itself : (v : ℤ) → int_eq v v ≡ true
equal_itself v = (Decides-int_eq v v).1 refl

-- the number at i is itself among those equal to it
counts_itself : (xs : List ℤ) (i : ℕ) → i < length xs → count_by (λ x. int_eq x (at xs i)) (take i xs) < count_by (λ x. int_eq x (at xs i)) xs
counts_itself xs i h =
    let m = count_by_more_yes (λ x. int_eq x (at xs i)) xs i (pos 0) h (equal_itself (at xs i)) in
    let t = sum_by-take-le (λ x. cond (int_eq x (at xs i)) 1 0) xs (i + 1) in
    omega (arith, m, t)

-- a number stands in the sorted list at its rank
pub record Lands (xs ys : List ℤ) (i : ℕ) : Type 0 where
  pub there : rank xs i < length ys
  pub same : at ys (rank xs i) ≡ at xs i

-- each number of a list stands in the sorted list at its rank
pub lands : (xs ys : List ℤ) → IsPermutation xs ys → IsRising ys → (i : ℕ) → i < length xs → Lands xs ys i
unfolding rank
lands xs ys perm up i h =
    let v = at xs i in
    let less : count_by (λ x. int_lt x (at xs i)) ys ≡ count_by (λ x. int_lt x (at xs i)) xs = sum_by-IsPermutation (λ x. cond (int_lt x (at xs i)) 1 0) xs ys perm in
    let most : count_by (λ x. int_le x (at xs i)) ys ≡ count_by (λ x. int_le x (at xs i)) xs = sum_by-IsPermutation (λ x. cond (int_le x (at xs i)) 1 0) xs ys perm in
    let split = at_most_splits (at xs i) xs in
    let self = counts_itself xs i h in
    let below : rank xs i < count_by (λ x. int_le x (at xs i)) ys = omega (arith, most, split, self) in
    let there : rank xs i < length ys = omega (arith, below, count_by-le-length (λ x. int_le x (at xs i)) ys) in
    let a = first_pass (λ x. int_le x (at xs i)) ys (most_down (at xs i)) up (rank xs i) below in
    let b = others_fail (λ x. int_lt x (at xs i)) ys (less_down (at xs i)) up (rank xs i) there (omega (arith, less)) in
    record { there = there; same = between (at ys (rank xs i)) (at xs i) a b }

-- the e-th of those that pass, in the order of the list
nth_passing : (p : ℤ → Bool) (xs : List ℤ) (e : ℕ) → e < count_by p xs → (i : ℕ) × (i < length xs) × (p (at xs i) ≡ true) × (count_by p (take i xs) ≡ e)
nth_passing p [] e h = absurd (omega arith)
nth_passing p (x ∷ xs) zero h =
    elim (cases_Bool (p x)) [
      | inl t ↦ (0, omega arith, t, refl)
      | inr f ↦
          let n = nth_passing p xs zero (omega (arith, one_fails p x xs f)) in
          (suc n.0, omega (arith, n.1), n.2, one_fails p x (take n.0 xs) f ∙ omega (arith, n.3))
    ]
nth_passing p (x ∷ xs) (suc e) h =
    elim (cases_Bool (p x)) [
      | inl t ↦
          let n = nth_passing p xs e (omega (arith, one_passes p x xs t)) in
          (suc n.0, omega (arith, n.1), n.2, one_passes p x (take n.0 xs) t ∙ omega (arith, n.3))
      | inr f ↦
          let n = nth_passing p xs (suc e) (omega (arith, one_fails p x xs f)) in
          (suc n.0, omega (arith, n.1), n.2, one_fails p x (take n.0 xs) f ∙ omega (arith, n.3))
    ]

not_less_itself : (v : ℤ) → int_lt v v ≡ true → ⊥
not_less_itself v h = let k : v <ℤ v = grind (arith, ints) in omega (arith, ints)

at_most_itself : (v : ℤ) → int_le v v ≡ true
at_most_itself v = grind (arith, ints)

-- the rank of the number at i, where that number is v
rank_of : (xs : List ℤ) (i : ℕ) (v : ℤ) → at xs i ≡ v → count_by (λ x. int_lt x v) xs + count_by (λ x. int_eq x v) (take i xs) ≡ rank xs i
unfolding rank
rank_of xs i v e = ap (λ (w : ℤ). count_by (λ x. int_lt x w) xs + count_by (λ x. int_eq x w) (take i xs)) (sym e)

-- each place of the sorted list is the rank of a number
pub ranked_at : (xs ys : List ℤ) → IsPermutation xs ys → IsRising ys → (r : ℕ) → r < length ys → (i : ℕ) × (i < length xs) × (rank xs i ≡ r)
ranked_at xs ys perm up r h =
    let v : ℤ = at ys r in
    let less : count_by (λ x. int_lt x (at ys r)) ys ≡ count_by (λ x. int_lt x (at ys r)) xs = sum_by-IsPermutation (λ x. cond (int_lt x (at ys r)) 1 0) xs ys perm in
    let most : count_by (λ x. int_le x (at ys r)) ys ≡ count_by (λ x. int_le x (at ys r)) xs = sum_by-IsPermutation (λ x. cond (int_le x (at ys r)) 1 0) xs ys perm in
    let split = at_most_splits (at ys r) xs in
    let low : count_by (λ x. int_lt x (at ys r)) ys ≤ r = elim (cases_lt r (count_by (λ x. int_lt x (at ys r)) ys)) [
      | inl k ↦ absurd (not_less_itself (at ys r) (first_pass (λ x. int_lt x (at ys r)) ys (less_down (at ys r)) up r k))
      | inr k ↦ k
    ] in
    let high : r < count_by (λ x. int_le x (at ys r)) ys = elim (cases_lt r (count_by (λ x. int_le x (at ys r)) ys)) [
      | inl k ↦ k
      | inr k ↦ absurd (both_ways _ (at_most_itself (at ys r)) (others_fail (λ x. int_le x (at ys r)) ys (most_down (at ys r)) up r h k))
    ] in
    let n = nth_passing (λ x. int_eq x (at ys r)) xs (r - count_by (λ x. int_lt x (at ys r)) xs) (omega (arith, less, most, split, low, high)) in
    let same : at xs n.0 ≡ at ys r = (Decides-int_eq (at xs n.0) (at ys r)).0 n.2 in
    (n.0, n.1, omega (arith, rank_of xs n.0 (at ys r) same, n.3, less, low))

-- a pair inside stands two by two in the sorted list
pub record PairLands (xs ys : List ℤ) (i j k : ℕ) : Type 0 where
  pub even : rank xs i ≡ 2 * k
  pub there : 2 * k + 1 < length ys
  pub same_gap : gap xs i j ≡ pair_gap ys k

-- each pair inside stands so in the sorted list, and half the first one's rank counts the pairs before it
pub pair_lands : (xs ys : List ℤ) → IsPermutation xs ys → IsRising ys → (i j : ℕ) → IsInsidePair xs i j → PairLands xs ys i j (rank xs i / 2)
pair_lands xs ys perm up i j pair =
    let a = lands xs ys perm up i pair.from_there in
    let b = lands xs ys perm up j pair.to_there in
    let ev : rank xs i ≡ 2 * (rank xs i / 2) = omega (arith, pair.even) in
    let ne : rank xs j ≡ 2 * (rank xs i / 2) + 1 = omega (arith, pair.next, ev) in
    let low : at ys (2 * (rank xs i / 2)) ≡ at xs i = ap (λ (n : ℕ). at ys n) (sym ev) ∙ a.same in
    let high : at ys (2 * (rank xs i / 2) + 1) ≡ at xs j = ap (λ (n : ℕ). at ys n) (sym ne) ∙ b.same in
    record { even = ev; there = omega (arith, b.there, ne); same_gap = sym (ap (λ (z : ℤ). z -ℤ at ys (2 * (rank xs i / 2))) high ∙ ap (λ (z : ℤ). at xs j -ℤ z) low) }

-- two neighbours in the sorted list are a pair inside
pub pair_at : (xs ys : List ℤ) → IsPermutation xs ys → IsRising ys → (k : ℕ) → 2 * k + 1 < length ys →
    (i : ℕ) × (j : ℕ) × IsInsidePair xs i j × (rank xs i ≡ 2 * k) × (at xs i ≡ at ys (2 * k)) × (at xs j ≡ at ys (2 * k + 1))
pair_at xs ys perm up k h =
    let a = ranked_at xs ys perm up (2 * k) (omega (arith, h)) in
    let b = ranked_at xs ys perm up (2 * k + 1) h in
    let la = lands xs ys perm up a.0 a.1 in
    let lb = lands xs ys perm up b.0 b.1 in (
      a.0,
      b.0,
      record { from_there = a.1; to_there = b.1; even = omega (arith, a.2); next = omega (arith, a.2, b.2) },
      a.2,
      sym (ap (λ (n : ℕ). at ys n) (sym a.2) ∙ la.same),
      sym (ap (λ (n : ℕ). at ys n) (sym b.2) ∙ lb.same),
    )

le_along : (a b c d : ℤ) → a ≡ b → b ≤ℤ c → d ≡ c → a ≤ℤ d
le_along a b c d e h f = omega (arith, ints)

lt_along : (a b c d : ℤ) → a ≡ b → b <ℤ c → d ≡ c → a <ℤ d
lt_along a b c d e h f = omega (arith, ints)

-- the widest neighbours of the sorted list are the widest pair inside
pub widest_pair : (xs ys : List ℤ) → IsPermutation xs ys → IsRising ys → (k : ℕ) → IsFirstGreatest (pair_gap ys) (length ys / 2) k →
    (i : ℕ) × (j : ℕ) × IsWidestPair xs i j × (at xs i ≡ at ys (2 * k)) × (at xs j ≡ at ys (2 * k + 1))
widest_pair xs ys perm up k best =
    let p = pair_at xs ys perm up k (omega (arith, best.there)) in
    let same : gap xs p.0 p.1 ≡ pair_gap ys k = ap (λ (z : ℤ). z -ℤ at xs p.0) p.5 ∙ ap (λ (z : ℤ). at ys (2 * k + 1) -ℤ z) p.4 in (
      p.0,
      p.1,
      record {
        inside = p.2;
        widest = λ m n pair.
            let l = pair_lands xs ys perm up m n pair in
            le_along _ _ _ _ l.same_gap (best.greatest (rank xs m / 2) (omega (arith, l.there))) same;
        first = λ m n pair less.
            let l = pair_lands xs ys perm up m n pair in
            lt_along _ _ _ _ l.same_gap (best.first (rank xs m / 2) (omega (arith, l.even, p.3, less))) same;
      },
      p.4,
      p.5,
    )
