-- The table of live labels.
use Rattle.std.specs.Prelude.{ℕ, zero, suc, ◌≡◌, ◌<◌, List, [], ◌∷◌, length, slice_index_or, Option, MatchOption}
use Rattle.ml_cone.specs.Slots.{no_slot}
use Rattle.ml_cone.specs.declared.slot.Slot.{Slot}
use Rattle.ml_store.specs.Rows.{slots_in, number_at, IsFresh}
use Rattle.ml_store.specs.Numbered.{AreNumbered}
use Rattle.ml_store.specs.Names.{names_in, AreByName}
use Rattle.ml_store.specs.declared.row.Row.{Row}

-- what contracts see of a table: the rows in order, and how many more may come in
pub record Listed : Type 0 where
  pub rows : List Row
  pub room : ℕ

-- the row at a place has the number
abbrev pub IsRowAt : List Row → ℕ → ℕ → Type 0
IsRowAt rows number at = (at < length rows) × (number_at rows at ≡ number)

-- the place of the row with the number; none where no row has it
abbrev pub IsPlaceIn : List Row → ℕ → Option ℕ → Type 0
IsPlaceIn rows number place = MatchOption place (IsFresh number rows) (IsRowAt rows number)

-- the slot of the row at a place
abbrev pub slot_at : List Row → ℕ → Slot
slot_at rows i = slice_index_or (slots_in rows) i no_slot

-- the rows, of which that at a place has another slot
abbrev pub with_slot : List Row → ℕ → Slot → List Row
with_slot [] i slot = []
with_slot (r ∷ rows) zero slot = record r { slot = slot } ∷ rows
with_slot (r ∷ rows) (suc i) slot = r ∷ with_slot rows i slot

-- the rows are not too many, each with a low number of its own, and the numbers stand in byte order of ids too
pub record IsTable (rows : List Row) (ids : List ℕ) : Type 0 where
  pub numbered : AreNumbered rows
  pub by_name : AreByName (names_in rows) ids
