-- All numbers below 32,768 in an order, which stand in blocks of 128 cells, each of them a ring.
use Rattle.std.specs.Prelude.{ℕ, ◌≡◌, ◌+◌, ◌*◌, ◌/◌, ◌%◌, ◌<◌, List, [], ◌∷◌, ◌++◌, length, take, drop, slice_index, insert, remove, All}
use Rattle.ml_ratio.specs.Limits.{most_labels}
use Rattle.ml_store.specs.Rows.{AreDifferent}

-- the cells of a ring, read from its head on
abbrev pub turned : ℕ → List ℕ → List ℕ
turned head ring = drop head ring ++ take head ring

-- the numbers in the cells, block after block, each read from its own head on
unfoldable pub order_of : List ℕ → List ℕ → List ℕ
order_of [] cells = []
order_of (head ∷ heads) cells = turned head (take 128 cells) ++ order_of heads (drop 128 cells)

-- the cell whose number stands at a place of the order
abbrev pub cell_at : List ℕ → ℕ → ℕ
cell_at heads k = k / 128 * 128 + (k % 128 + slice_index heads (k / 128)) % 128

-- what the one column tells leads back by the other
abbrev pub LeadsBack : List ℕ → List ℕ → Type 0
LeadsBack there back = (k : ℕ) → k < most_labels → (slice_index there k < most_labels) × (slice_index back (slice_index there k) ≡ k)

-- each number has one cell, which the column tells, and each block a head
pub record AreTiers (cells cell_of heads : List ℕ) : Type 0 where
  pub all_cells : length cells ≡ most_labels
  pub all_numbers : length cell_of ≡ most_labels
  pub all_heads : length heads ≡ 256
  pub told : LeadsBack cells cell_of
  pub found : LeadsBack cell_of cells
  pub turns : (b : ℕ) → b < 256 → slice_index heads b < 128

-- no number stands in the order twice: a word of its own, so that a proof that only holds the order does not try all pairs
unfoldable pub IsOnceEach : List ℕ → Type 0
IsOnceEach order = AreDifferent order

-- each number below 32,768 stands in the order, once
pub record AreAll (order : List ℕ) : Type 0 where
  pub many : length order ≡ most_labels
  pub low : All (λ n. n < most_labels) order
  pub once : IsOnceEach order

-- each number is its own place
abbrev pub AreAscending : List ℕ → Type 0
AreAscending order = (k : ℕ) → k < most_labels → slice_index order k ≡ k

-- the order with the number at `from` moved to `to`
abbrev pub shifted : List ℕ → ℕ → ℕ → List ℕ
shifted order from to = insert (remove order from) to (slice_index order from)
