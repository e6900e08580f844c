-- Counts of the elements of a list that pass a test.
use Rattle.std.proofs.Common.{◌≡◌, ℕ, zero, suc, ◌+◌, ◌<◌, ◌≤◌, List, [], ◌∷◌, length, get_or, map, arith, refl, ap, ◌∙◌, Bool, true, false, cond, ◌⊎◌, inl, inr}
use Rattle.std.specs.Prelude.{sum_by, count_by, flat_map}
use Rattle.std.specs.List.Sorted.{IsPartitionedBy, IsPartitionPoint}
use Rattle.std.proofs.lemmas.Bool.{cases_lt}
use Rattle.std.proofs.lemmas.List.Sums.{sum_by-cons, sum_by-append, count_by-le-length}

-- each test comes out true or false
pub true_or_false : (b : Bool) → (b ≡ true) ⊎ (b ≡ false)
true_or_false true = inl refl
true_or_false false = inr refl

-- with an element in front that passes the test, the count is greater by one
pub count_yes : {X : Type 0} (p : X → Bool) (x : X) (xs : List X) → p x ≡ true → count_by p (x ∷ xs) ≡ 1 + count_by p xs
count_yes {X} p x xs e = sum_by-cons (λ (y : X). cond (p y) 1 0) x xs ∙ ap (λ (b : Bool). cond b 1 0 + count_by p xs) e

-- with an element in front that fails the test, the count stays
pub count_no : {X : Type 0} (p : X → Bool) (x : X) (xs : List X) → p x ≡ false → count_by p (x ∷ xs) ≡ count_by p xs
count_no {X} p x xs e =
    let whole : count_by p (x ∷ xs) ≡ 0 + count_by p xs = (sum_by-cons (λ (y : X). cond (p y) 1 0) x xs ∙ ap (λ (b : Bool). cond b 1 0 + count_by p xs) e) in
    omega arith

tail_parted : {X : Type 0} (p : X → Bool) (x : X) (xs : List X) → IsPartitionedBy p (x ∷ xs) → IsPartitionedBy p xs
tail_parted p x xs parted i j d le lt h = parted (suc i) (suc j) d (omega arith) (omega arith) h

-- where none that passes comes after one that fails, the elements below the count pass
pub counted : {X : Type 0} (p : X → Bool) (xs : List X) → IsPartitionedBy p xs → (k : ℕ) (d : X) → k < count_by p xs → p (get_or xs k d) ≡ true
counted p [] parted k d h = absurd (omega arith)
counted p (x ∷ xs) parted zero d h =
    elim (true_or_false (p x)) [
      | inl yes' ↦ yes'
      | inr no' ↦
          let some : 0 < count_by p xs = omega (arith, count_no p x xs no') in
          let next = counted p xs (tail_parted p x xs parted) 0 d some in
          parted 0 1 d (omega arith) (omega (arith, count_by-le-length p xs)) next
    ]
counted p (x ∷ xs) parted (suc k) d h =
    elim (true_or_false (p x)) [
      | inl yes' ↦ counted p xs (tail_parted p x xs parted) k d (omega (arith, count_yes p x xs yes'))
      | inr no' ↦ counted p xs (tail_parted p x xs parted) k d (omega (arith, count_no p x xs no'))
    ]

-- and those that pass are below the count
pub below_count : {X : Type 0} (p : X → Bool) (xs : List X) → IsPartitionedBy p xs → (k : ℕ) (d : X) → k < length xs → p (get_or xs k d) ≡ true → k < count_by p xs
below_count p [] parted k d lt h = absurd (omega arith)
below_count p (x ∷ xs) parted zero d lt h = omega (arith, count_yes p x xs h)
below_count p (x ∷ xs) parted (suc k) d lt h =
    let first : p x ≡ true = parted 0 (suc k) d (omega arith) lt h in
    let rest = below_count p xs (tail_parted p x xs parted) k d (omega arith) h in
    omega (arith, count_yes p x xs first)

-- the place that parts those that pass from those that fail is the count
pub parted_at : {X : Type 0} (p : X → Bool) (xs : List X) (i : ℕ) → IsPartitionedBy p xs → i ≤ length xs → IsPartitionPoint (λ y. p y ≡ true) (λ y. p y ≡ false) xs i → X → i ≡ count_by p xs
parted_at p xs zero parted le at d =
    elim (cases_lt 0 (count_by p xs)) [
      | inl some ↦
          let in' : 0 < length xs = omega (arith, count_by-le-length p xs) in
          let a = counted p xs parted 0 d some in
          let b = at.1 0 d (omega arith) in' in
          absurd (cc)
      | inr none ↦ omega arith
    ]
parted_at p xs (suc i) parted le at d =
    let last : i < count_by p xs = below_count p xs parted i d (omega arith) (at.0 i d (omega arith) (omega arith)) in
    elim (cases_lt (suc i) (count_by p xs)) [
      | inl more ↦
          let in' : suc i < length xs = omega (arith, count_by-le-length p xs) in
          let a = counted p xs parted (suc i) d more in
          let b = at.1 (suc i) d (omega arith) in' in
          absurd (cc)
      | inr none ↦ omega arith
    ]

-- sums of terms that add up
pub sum_by-plus : {X : Type 0} (f g h : X → ℕ) → ((x : X) → f x + g x ≡ h x) → (xs : List X) → sum_by f xs + sum_by g xs ≡ sum_by h xs
sum_by-plus f g h each [] = refl
sum_by-plus f g h each (x ∷ xs) = omega (arith, sum_by-cons f x xs, sum_by-cons g x xs, sum_by-cons h x xs, each x, sum_by-plus f g h each xs)

-- as many of the mapped values pass as there are elements whose values pass
pub count_by-map : {X Y : Type 0} (p : Y → Bool) (f : X → Y) (xs : List X) → count_by p (map f xs) ≡ count_by (λ x. p (f x)) xs
count_by-map p f [] = refl
count_by-map {X} p f (x ∷ xs) =
    elim (true_or_false (p (f x))) [
      | inl yes' ↦ omega (arith, count_yes p (f x) (map f xs) yes', count_yes (λ (y : X). p (f y)) x xs yes', count_by-map p f xs)
      | inr no' ↦ omega (arith, count_no p (f x) (map f xs) no', count_no (λ (y : X). p (f y)) x xs no', count_by-map p f xs)
    ]

-- how many pass in joined lists is the sum of how many pass in each
pub count_by-flat_map : {X Y : Type 0} (p : Y → Bool) (f : X → List Y) (xs : List X) → count_by p (flat_map f xs) ≡ sum_by (λ x. count_by p (f x)) xs
count_by-flat_map p f [] = refl
count_by-flat_map {X} {Y} p f (x ∷ xs) =
    let one = sum_by-append (λ (y : Y). cond (p y) 1 0) (f x) (flat_map f xs) in
    let two = sum_by-cons (λ (z : X). count_by p (f z)) x xs in
    omega (arith, one, two, count_by-flat_map p f xs)
