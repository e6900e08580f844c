-- Live labels with their numbers and slots.
use Rattle.std.specs.Prelude.{ℕ, ◌≡◌, ◌≢◌, ◌<◌, List, length, map, slice_index, AllPairs, Contains}
use Rattle.ml_ratio.specs.declared.ratio.Ratio.{Ratio}
use Rattle.ml_cone.specs.declared.label.Label.{Label}
use Rattle.ml_cone.specs.declared.slot.Slot.{Slot}
use Rattle.ml_store.specs.declared.row.Row.{Row}

-- the numbers of rows
abbrev pub numbers_in : List Row → List ℕ
numbers_in rows = map (λ r. r.number) rows

-- the labels of rows
abbrev pub labels_in : List Row → List Label
labels_in rows = map (λ r. r.label) rows

-- the slots of rows
abbrev pub slots_in : List Row → List Slot
slots_in rows = map (λ r. r.slot) rows

-- the ends of rows
abbrev pub untils_in : List Row → List Ratio
untils_in rows = map (λ r. r.slot.until) rows

-- the number of the row at a place
abbrev pub number_at : List Row → ℕ → ℕ
number_at rows i = slice_index (numbers_in rows) i

-- each row's number is its place
abbrev pub AreInTurn : List Row → Type 0
AreInTurn rows = (k : ℕ) → k < length rows → number_at rows k ≡ k

-- some row has the number
abbrev pub IsLive : List Row → ℕ → Type 0
IsLive rows number = (r : Row) × Contains rows r × (r.number ≡ number)

-- no row has the number
abbrev pub IsFresh : ℕ → List Row → Type 0
IsFresh number rows = ¬ (Contains (numbers_in rows) number)

-- no two of the numbers are the same
abbrev pub AreDifferent : List ℕ → Type 0
AreDifferent numbers = AllPairs (λ one other. one ≢ other) numbers

-- no two rows have one number
abbrev pub HaveOwnNumbers : List Row → Type 0
HaveOwnNumbers rows = AreDifferent (numbers_in rows)

-- no two rows have one id
abbrev pub HaveOwnIds : List Row → Type 0
HaveOwnIds rows = AllPairs (λ one other. one.label.order.id ≢ other.label.order.id) rows

-- some label has the id
abbrev pub HasId : List Label → List ℕ → Type 0
HasId labels id = (label : Label) × Contains labels label × (label.order.id ≡ id)

-- a label with the id is live under the number
abbrev pub IsNumberOf : List Row → List ℕ → ℕ → Type 0
IsNumberOf rows id number = (r : Row) × Contains rows r × (r.label.order.id ≡ id) × (r.number ≡ number)

-- what contracts see of live labels: the rows in order, and how many labels, entries of the grid and pairs of blocker and blocked may come in without memory
pub record Stored : Type 0 where
  pub rows : List Row
  pub labels : ℕ
  pub cells : ℕ
  pub blocks : ℕ
