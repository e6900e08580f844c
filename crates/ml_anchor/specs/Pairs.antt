-- Crossings by their ranks, and the widest stretch inside.
use Rattle.std.specs.Prelude.{◌≡◌, ℕ, ◌+◌, ◌*◌, ◌%◌, ◌<◌, ℤ, pos, ◌+ℤ◌, ◌-ℤ◌, ◌≤ℤ◌, ◌<ℤ◌, int_lt, List, length, take, slice_index_or}
use Rattle.std.specs.List.{count_by}
use Rattle.std.specs.Ordering.{int_eq}
use Rattle.ml_ratio.specs.Floor.{floor}

-- the number at place i
abbrev pub at : List ℤ → ℕ → ℤ
at xs i = slice_index_or xs i (pos 0)

-- the rank of the number at i: how many numbers are less than it, or equal to it and earlier
unfoldable pub rank : List ℤ → ℕ → ℕ
rank xs i = count_by (λ x. int_lt x (at xs i)) xs + count_by (λ x. int_eq x (at xs i)) (take i xs)

-- how far the number at j lies above that at i
abbrev pub gap : List ℤ → ℕ → ℕ → ℤ
gap xs i j = at xs j -ℤ at xs i

-- the numbers at i and at j bound a stretch inside: the one has an even rank, the other the next
pub record IsInsidePair (xs : List ℤ) (i j : ℕ) : Type 0 where
  pub from_there : i < length xs
  pub to_there : j < length xs
  pub even : rank xs i % 2 ≡ 0
  pub next : rank xs j ≡ rank xs i + 1

-- the inside pair with the greatest difference, the one of least rank at a tie
pub record IsWidestPair (xs : List ℤ) (i j : ℕ) : Type 0 where
  pub inside : IsInsidePair xs i j
  pub widest : (k m : ℕ) → IsInsidePair xs k m → gap xs k m ≤ℤ gap xs i j
  pub first : (k m : ℕ) → IsInsidePair xs k m → rank xs k < rank xs i → gap xs k m <ℤ gap xs i j

-- half way between the widest inside pair, rounded down
pub record IsMiddle (xs : List ℤ) (x : ℤ) : Type 0 where
  pub from : ℕ
  pub to : ℕ
  pub pair : IsWidestPair xs from to
  pub half : x ≡ floor (at xs from +ℤ at xs to) (pos 2)

-- of numbers in ascending order, taken two by two, the difference of the k-th two
abbrev pub pair_gap : List ℤ → ℕ → ℤ
pair_gap xs k = gap xs (2 * k) (2 * k + 1)
