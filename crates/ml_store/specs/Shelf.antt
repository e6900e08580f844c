-- Rows that stand by number, and their order.
use Rattle.std.specs.Prelude.{ℕ, ◌≡◌, List, [], ◌∷◌, All, Option, Some, None, Box, slice_index_or}
use Rattle.std.specs.declared.alloc.Global.{Global}
use Rattle.ml_store.specs.Numbered.{AreNumbered}
use Rattle.ml_store.specs.Rows.{numbers_in}
use Rattle.ml_store.specs.declared.row.Row.{Row}

-- the row of a box, where there is one
abbrev pub unboxed_one : Option (Box Row Global) → Option Row
unboxed_one None = None
unboxed_one (Some boxed) = Some boxed.value

-- the row that stands at the number
abbrev pub row_at : List (Option Row) → ℕ → Option Row
row_at shelf number = slice_index_or shelf number None

-- the rows, behind the one, where there is one
abbrev pub behind : Option Row → List Row → List Row
behind None rows = rows
behind (Some r) rows = r ∷ rows

-- the rows that stand at these numbers
abbrev pub rows_at : List (Option Row) → List ℕ → List Row
rows_at shelf [] = []
rows_at shelf (n ∷ numbers) = behind (row_at shelf n) (rows_at shelf numbers)

-- each of the rows stands at its number
abbrev pub AreShelved : List (Option Row) → List Row → Type 0
AreShelved shelf rows = All (λ r. row_at shelf r.number ≡ Some r) rows

-- each of these rows stands at its number, and the numbers are theirs, in their order
pub record AreInPlace (shelf : List (Option Row)) (numbers : List ℕ) (rows : List Row) : Type 0 where
  pub numbered : AreNumbered rows
  pub numbers_are : numbers ≡ numbers_in rows
  pub shelved : AreShelved shelf rows
