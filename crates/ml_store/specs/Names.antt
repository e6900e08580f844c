-- Numbers of labels in the order of their ids.
use Rattle.std.specs.Prelude.{ℕ, ◌≡◌, ◌<◌, ◌≤◌, ◌↔◌, List, length, map, slice_index, AllPairs, Contains}
use Rattle.std.specs.Ordering.{nat_cmp}
use Rattle.std.specs.Cmp.Lexicographic.{slice_cmp}
use Rattle.std.specs.declared.cmp.Ordering.TheVariants.{Less}
use Rattle.ml_store.specs.declared.row.Row.{Row}

-- the number and the id of a label
pub record Name : Type 0 where
  pub number : ℕ
  pub id : List ℕ

-- the number and the id of a row
abbrev pub naming_of : Row → Name
naming_of r = record { number = r.number; id = r.label.order.id }

-- the numbers and ids of rows
abbrev pub names_in : List Row → List Name
names_in rows = map naming_of rows

-- the id comes before the other in byte order
abbrev pub IsIdBefore : List ℕ → List ℕ → Type 0
IsIdBefore one other = slice_cmp nat_cmp one other ≡ Less

-- the list holds the numbers of these names, in byte order of ids
pub record AreByName (names : List Name) (numbers : List ℕ) : Type 0 where
  pub sorted : List Name
  pub ascending : AllPairs (λ one other. IsIdBefore one.id other.id) sorted
  pub members : (name : Name) → Contains sorted name ↔ Contains names name
  pub numbers_are : numbers ≡ map (λ name. name.number) sorted

-- the numbers before the place are those of names whose id comes before this one, and those from there on are not
pub record IsIdPlace (names : List Name) (numbers : List ℕ) (id : List ℕ) (at : ℕ) : Type 0 where
  pub bound : at ≤ length numbers
  pub before : (k : ℕ) (name : Name) → k < at → Contains names name → slice_index numbers k ≡ name.number → IsIdBefore name.id id
  pub after : (k : ℕ) (name : Name) → at ≤ k → k < length numbers → Contains names name → slice_index numbers k ≡ name.number → ¬ (IsIdBefore name.id id)

-- one of the names has the id
abbrev pub HaveId : List Name → List ℕ → Type 0
HaveId names id = (name : Name) × Contains names name × (name.id ≡ id)
