-- Which labels wait: a bit for each, of words that 64 labels share.
use Rattle.std.specs.Prelude.{ℕ, ◌*◌, ◌/◌, ◌%◌, ◌<◌, ◌≤◌, ◌==◌, Bool, false, List, length, map, IsTrue, slice_index, slice_index_or}
use Rattle.std.specs.Int.{bit_at}
use Rattle.std.specs.List.{range_with_len}
use Rattle.ml_ratio.specs.Limits.{most_labels}

-- none of the labels from one place until another waits
abbrev pub NoneWaits : List Bool → ℕ → ℕ → Type 0
NoneWaits waits from until = (k : ℕ) → from ≤ k → k < until → ¬ (IsTrue (slice_index_or waits k false))

-- each label from one place until another waits
abbrev pub AllWait : List Bool → ℕ → ℕ → Type 0
AllWait waits from until = (k : ℕ) → from ≤ k → k < until → IsTrue (slice_index_or waits k false)

-- the bit of the label at a place, counted from the lowest of the first word
abbrev pub bit_of : List ℕ → ℕ → ℕ
bit_of words k = bit_at (slice_index words (k / 64)) (k % 64)

-- whether each of so many labels waits: its bit is 1
unfoldable pub waiting_in : List ℕ → ℕ → List Bool
waiting_in words many = map (λ k. bit_of words k == 1) (range_with_len 0 many)

-- the words have a bit for each of so many labels
pub record HaveRoom (words : List ℕ) (many : ℕ) : Type 0 where
  pub few : many ≤ most_labels
  pub room : many ≤ 64 * length words
