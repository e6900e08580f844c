-- New slots of labels, by number.
use Rattle.std.specs.Prelude.{ℕ, ◌≡◌, ◌+◌, ◌<◌, ◌≤◌, ◌⊎◌, [], List, length, map, slice_index, All}
use Rattle.ml_ratio.specs.Limits.{most_labels}
use Rattle.ml_store.specs.Rows.{AreDifferent}
use Rattle.ml_store.specs.declared.moved.Moved.{Moved}

-- the numbers that have a new slot
abbrev pub numbers_of : List Moved → List ℕ
numbers_of moved = map (λ m. m.number) moved

-- `at` is one more than the place of the number's new slot, and 0 where it has none
abbrev pub IsFoundAt : List Moved → ℕ → ℕ → Type 0
IsFoundAt moved n at =
    (at ≤ length moved)
    × ((k : ℕ) → k < length moved → slice_index (numbers_of moved) k ≡ n → at ≡ k + 1)
    × (0 < at → (k : ℕ) → k + 1 ≡ at → slice_index (numbers_of moved) k ≡ n)

-- the column tells of each number where its new slot is found
pub record IsColumn (moved : List Moved) (column : List ℕ) : Type 0 where
  pub all_numbers : length column ≡ most_labels
  pub found : (n : ℕ) → n < most_labels → IsFoundAt moved n (slice_index column n)

-- each number has one new slot at most; there is no column, or it is that of these
pub record AreMoves (moved : List Moved) (column : List ℕ) : Type 0 where
  pub low : All (λ n. n < most_labels) (numbers_of moved)
  pub differ : AreDifferent (numbers_of moved)
  pub found : (column ≡ []) ⊎ IsColumn moved column
