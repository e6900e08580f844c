-- A label whose blocker stands as it did before other labels got other ends.
use Rattle.std.specs.Prelude.{ℕ, ◌≡◌, ◌≢◌, ◌<◌, ◌↔◌, Bool, true, false, List, length, map, slice_index_or, Contains}
use Rattle.std.specs.List.Sorted.{IsStrictlyIncreasing}
use Rattle.ml_ratio.specs.Fraction.{IsSame}
use Rattle.ml_cone.specs.Choice.{Choice}
use Rattle.ml_cone.specs.Slots.{IsOwnSlot, IsSlotAmong, row, ends}
use Rattle.ml_cone.specs.declared.label.Label.{Label}
use Rattle.ml_cone.specs.declared.slot.Slot.{Slot}
use Rattle.ml_store.specs.Rows.{number_at, labels_in}
use Rattle.ml_store.specs.declared.row.Row.{Row}
use Rattle.ml_repair.specs.Repair.{Stands, present_slots, present_at, rival_in}
use Rattle.ml_store.specs.declared.moved.Moved.{Moved}

-- the places before i whose labels have other ends than before, the edited label among them where it comes
pub record AreChanged (was is : Choice) (at : ℕ) (comes : Bool) (i : ℕ) (changed : List ℕ) : Type 0 where
  pub stand : (p : ℕ) → Contains changed p → Stands comes true at i p
  pub edited : comes ≡ true → Contains changed at
  pub others : (j : ℕ) → j < i → j ≢ at → ¬ (Contains changed j) → IsSame (was j) (is j)

-- the label at i has the slot that those before it left it, of which those at these places have other ends now
pub record IsOwnBefore (rows : List Row) (moved : List Moved) (at : ℕ) (comes : Bool) (changed : List ℕ) (i : ℕ) : Type 0 where
  pub was : List Slot
  pub own : (d : Label) → IsOwnSlot (row (number_at rows) (labels_in rows) was d) (Stands comes false at i) (slice_index_or (labels_in rows) i d) (present_at rows moved i)
  pub changed_are : AreChanged (ends was) (ends (present_slots rows moved)) at comes i changed

-- the label with the number stands at the place, which is before i, not that of the edited label and none of the others
pub record IsStaying (rows : List Row) (changed : List ℕ) (at i number place : ℕ) : Type 0 where
  pub is_place : place < length rows
  pub its_number : number_at rows place ≡ number
  pub before : place < i
  pub other : place ≢ at
  pub unchanged : ¬ (Contains changed place)

-- the slot is what the labels at the given places leave the label at i
pub record IsLeftBy (rows : List Row) (moved : List Moved) (i : ℕ) (given : ℕ → Type 0) (slot : Slot) : Type 0 where
  pub low : Label
  pub its : (d : Label) → slice_index_or (labels_in rows) i d ≡ low
  pub places : List ℕ
  pub ascending : IsStrictlyIncreasing places
  pub same : (p : ℕ) → Contains places p ↔ given p
  pub among : IsSlotAmong low (map (rival_in rows moved low) places) slot
