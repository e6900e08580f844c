-- Each list of numbers has a sorted one.
use Rattle.std.proofs.Common.{List, [], ◌∷◌, ℤ, ◌≤ℤ◌, ◌<ℤ◌, zero, suc, arith}
use Rattle.std.specs.Prelude.{All}
use Rattle.std.specs.List.Sorted.{IsPermutation}
use Rattle.std.proofs.lemmas.Int.{ints, by_lt_z}
use Rattle.std.proofs.lemmas.List.Elements.{All-nil, All-cons, All-weaker, All-from_get_or}
use Rattle.std.proofs.lemmas.List.Sorted.{IsPermutation-refl, IsPermutation-sym, IsPermutation-cons, IsPermutation-trans, IsPermutation-middle, All-permutation}
use Rattle.ml_anchor.proofs.RankLemmas.{IsRising}

-- the list with a number in its place: a sorted list that is a permutation of x and ys
record Placed (x : ℤ) (ys : List ℤ) : Type 0 where
  all : List ℤ
  moved : IsPermutation (x ∷ ys) all
  up : IsRising all

-- a number before a list that rises and that it bounds
rising_cons : (y : ℤ) (ys : List ℤ) → All (λ z. y ≤ℤ z) ys → IsRising ys → IsRising (y ∷ ys)
rising_cons y ys low up zero zero h k = omega (arith, ints)
rising_cons y ys low up zero (suc j) h k = low j _ (omega arith)
rising_cons y ys low up (suc i) zero h k = absurd (omega arith)
rising_cons y ys low up (suc i) (suc j) h k = up i j (omega arith) (omega arith)

head_bounds : (y : ℤ) (ys : List ℤ) → IsRising (y ∷ ys) → All (λ z. y ≤ℤ z) ys
head_bounds y ys up = All-from_get_or (λ z. y ≤ℤ z) ys _ (λ i h. up 0 (suc i) (omega arith) (omega arith))

tail_rises : (y : ℤ) (ys : List ℤ) → IsRising (y ∷ ys) → IsRising ys
tail_rises y ys up i j h k = up (suc i) (suc j) (omega arith) (omega arith)

longer : (x y z : ℤ) → x ≤ℤ y → y ≤ℤ z → x ≤ℤ z
longer x y z h k = omega (arith, ints)

weaker : (a b : ℤ) → a <ℤ b → a ≤ℤ b
weaker a b h = omega (arith, ints)

place : (x : ℤ) (ys : List ℤ) → IsRising ys → Placed x ys
place x [] up = record { all = x ∷ []; moved = IsPermutation-refl (x ∷ []); up = rising_cons x [] (All-nil (λ z. x ≤ℤ z)) up }
place x (y ∷ ys) up =
    by_lt_z y x (λ less.
    let p = place x ys (tail_rises y ys up) in
    let low = All-cons (λ z. y ≤ℤ z) x ys (weaker _ _ less) (head_bounds y ys up) in
    record {
      all = y ∷ p.all;
      moved = IsPermutation-trans (x ∷ (y ∷ ys)) (y ∷ (x ∷ ys)) (y ∷ p.all)
          (IsPermutation-sym (y ∷ (x ∷ ys)) (x ∷ (y ∷ ys)) (IsPermutation-middle (y ∷ []) x ys)) (IsPermutation-cons y (x ∷ ys) p.all p.moved);
      up = rising_cons y p.all (All-permutation (λ z. y ≤ℤ z) (x ∷ ys) p.all p.moved low) p.up;
    })
    (λ more.
    record {
      all = x ∷ (y ∷ ys);
      moved = IsPermutation-refl (x ∷ (y ∷ ys));
      up = rising_cons x (y ∷ ys) (All-cons (λ z. x ≤ℤ z) y ys more (All-weaker (λ z. y ≤ℤ z) (λ z. x ≤ℤ z) (λ z h. longer x y z more h) ys (head_bounds y ys up))) up;
    })

-- a sorted list of the same numbers
pub record IsSortOf (xs : List ℤ) : Type 0 where
  pub sorted : List ℤ
  pub moved : IsPermutation xs sorted
  pub up : IsRising sorted

-- numbers in any order can be put in ascending order
pub sort_of : (xs : List ℤ) → IsSortOf xs
sort_of [] = record { sorted = []; moved = IsPermutation-refl []; up = λ i j h k. absurd (omega arith) }
sort_of (x ∷ xs) =
    let s = sort_of xs in
    let p = place x s.sorted s.up in
    record {
      sorted = p.all;
      moved = IsPermutation-trans (x ∷ xs) (x ∷ s.sorted) p.all (IsPermutation-cons x xs s.sorted s.moved) p.moved;
      up = p.up;
    }
