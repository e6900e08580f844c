-- Slots while an edit is planned. The edited label stands in the list, at the place `at`, whether it comes or goes.
use Rattle.std.specs.Prelude.{ℕ, ◌≡◌, ◌≢◌, ◌*◌, ◌^◌, ◌<◌, ◌≤◌, ◌⊎◌, ◌↔◌, Bool, true, false, IsTrue, List, length, slice_index_or, Contains, All}
use Rattle.ml_ratio.specs.Fraction.{Fraction, value_of, IsLess, IsAtMost}
use Rattle.ml_ratio.specs.Band.{MeetsBand}
use Rattle.ml_ratio.specs.declared.ratio.Ratio.{Ratio}
use Rattle.ml_cone.specs.Choice.{IsLimit}
use Rattle.ml_cone.specs.Rivals.{AreRivals}
use Rattle.ml_cone.specs.Slots.{Rival, IsOwnSlot, AreSlots, row, ends, no_slot}
use Rattle.ml_cone.specs.declared.label.Label.{Label}
use Rattle.ml_cone.specs.declared.slot.Slot.{Slot}
use Rattle.ml_conflict.specs.Begin.{SetsNoneUpTo}
use Rattle.ml_store.specs.Rows.{number_at, labels_in, slots_in}
use Rattle.ml_store.specs.declared.row.Row.{Row}
use Rattle.ml_store.specs.declared.moved.Moved.{Moved}
use Rattle.ml_repair.specs.Moves.{numbers_of}
use Rattle.ml_repair.specs.Plan.{moved_rows, slot_for}
use Rattle.ml_repair.specs.Roster.{OverlapsAt}
use Rattle.ml_repair.specs.Touched.{IsRivalBefore}
use Rattle.ml_repair.specs.declared.sought.Sought.{Sought}

-- the slots of the rows, with the new ones
abbrev pub present_slots : List Row → List Moved → List Slot
present_slots rows moved = slots_in (moved_rows moved rows)

-- the present slot of the row at a place
abbrev pub present_at : List Row → List Moved → ℕ → Slot
present_at rows moved i = slice_index_or (present_slots rows moved) i no_slot

-- j is before i, and it is the edited label only where that is there: before the edit, or after it
abbrev pub Stands : Bool → Bool → ℕ → ℕ → ℕ → Type 0
Stands comes after at i j = (j < i) × (j ≡ at → comes ≡ after)

-- each label that is there has the slot that those before it leave
pub record AreOwn (number : ℕ → ℕ) (labels : List Label) (slots : List Slot) (at : ℕ) (comes after : Bool) : Type 0 where
  pub one_slot : length slots ≡ length labels
  pub own : (d : Label) (i : ℕ) → i < length labels → (i ≡ at → comes ≡ after) →
      IsOwnSlot (row number labels slots d) (Stands comes after at i) (slice_index_or labels i d) (slice_index_or slots i no_slot)

-- the row at a place as a rival
abbrev pub rival_in : List Row → List Moved → Label → ℕ → Rival
rival_in rows moved low j = row (number_at rows) (labels_in rows) (present_slots rows moved) low j

-- those before place i with their present ends, the edited label only where it comes, leave the label there the slot
abbrev pub AreLeaving : List Row → List Moved → ℕ → Bool → ℕ → Slot → Type 0
AreLeaving rows moved at comes i slot =
    (d : Label) → IsOwnSlot (row (number_at rows) (labels_in rows) (present_slots rows moved) d) (Stands comes true at i) (slice_index_or (labels_in rows) i d) slot

-- the bound is the label's maximum, or the limit that the label at one of the places sets it
abbrev pub IsBoundBy : List Row → List Moved → Label → List ℕ → Ratio → Type 0
IsBoundBy rows moved low places bound =
    (bound ≡ low.max) ⊎ ((p : ℕ) × Contains places p × ((d : Label) → IsLimit low (slice_index_or (labels_in rows) p d) (ends (present_slots rows moved) p) (value_of bound)))

-- an active range with this end reaches into band k
abbrev pub ReachesBand : ℕ → Fraction → Type 0
ReachesBand k until = 0 < k → 2 ^ k * until.den ≤ until.num

-- the row at a place has no new slot
abbrev pub IsUnmoved : List Row → List Moved → ℕ → Type 0
IsUnmoved rows moved p = ¬ (Contains (numbers_of moved) (number_at rows p))

-- places of the list, among them each of a label without a new slot that the label overlaps in band k, and whose active range reaches into the band and ends above the label's minimum
pub record AreReaching (rows : List Row) (moved : List Moved) (low : Label) (k : ℕ) (places : List ℕ) : Type 0 where
  pub within : All (λ p. p < length rows) places
  pub whole : (p : ℕ) → OverlapsAt rows low k p → IsUnmoved rows moved p → ReachesBand k (ends (present_slots rows moved) p) →
      IsLess (value_of low.min) (ends (present_slots rows moved) p) → Contains places p

-- of the labels without a new slot before place i that the label overlaps in any of the bands from k to m none has an active range that reaches into that band
abbrev pub IsClear : List Row → List Moved → Label → ℕ → ℕ → ℕ → Type 0
IsClear rows moved low i k m = (p n : ℕ) → p < i → k ≤ n → n ≤ m → OverlapsAt rows low n p → IsUnmoved rows moved p → ¬ (ReachesBand n (ends (present_slots rows moved) p))

-- a place counts: it is among the places, or its label sets no limit up to the bound
abbrev pub Counts : List Row → List Moved → Label → Ratio → List ℕ → ℕ → Type 0
Counts rows moved low bound places p =
    Contains places p ⊎ ((d : Label) → SetsNoneUpTo low (slice_index_or (labels_in rows) p d) (ends (present_slots rows moved) p) (value_of bound))

-- places before that of the label are enough for its slot: of those that it overlaps in a band from its minimum up to some bound, and that reach into the band, each counts
pub record AreEnough (rows : List Row) (moved : List Moved) (low : Label) (at : ℕ) (comes : Bool) (i : ℕ) (places : List ℕ) : Type 0 where
  pub stand : (p : ℕ) → Contains places p → Stands comes true at i p
  pub bound : Ratio
  pub bound_is : IsBoundBy rows moved low places bound
  pub whole : (p k : ℕ) → Stands comes true at i p → OverlapsAt rows low k p → MeetsBand k (value_of low.min) (value_of bound) → ReachesBand k (ends (present_slots rows moved) p) →
      Counts rows moved low bound places p

-- the places are enough for the slot of the label that is sought
abbrev pub AreEnoughFor : Sought → List ℕ → Type 0
AreEnoughFor sought places = AreEnough sought.roster.now sought.moves.now sought.low.now sought.edited.at sought.edited.comes sought.place places

-- of the places with the property some came in, and the bound went down to their limits: only such as stand before that of the label that is sought, and each of these counts from then on
pub record AreSifted (sought : Sought) (those : ℕ → Type 0) (bound next : Ratio) (before after : List ℕ) : Type 0 where
  pub kept : (p : ℕ) → Contains before p → Contains after p
  pub sound : (p : ℕ) → Contains after p → Contains before p ⊎ Stands sought.edited.comes true sought.edited.at sought.place p
  pub bound_is : IsBoundBy sought.roster.now sought.moves.now sought.low.now before bound → IsBoundBy sought.roster.now sought.moves.now sought.low.now after next
  pub upto : IsAtMost (value_of next) (value_of bound)
  pub whole : (p : ℕ) → those p → Stands sought.edited.comes true sought.edited.at sought.place p → Counts sought.roster.now sought.moves.now sought.low.now next after p

-- places of the list, among them those of all rivals of the label
pub record AreSuspects (rows : List Row) (a : Label) (places : List ℕ) : Type 0 where
  pub within : All (λ p. p < length rows) places
  pub whole : (p : ℕ) → p < length rows → ((d : Label) → AreRivals (slice_index_or (labels_in rows) p d) a) → Contains places p

-- of the places with the property those whose labels are later rivals of that at i wait besides
abbrev pub IsWokenBy : List Label → ℕ → (ℕ → Type 0) → List Bool → List Bool → Type 0
IsWokenBy labels i those before after =
    (k : ℕ) → k < length labels → IsTrue (slice_index_or after k false) ↔ (IsTrue (slice_index_or before k false) ⊎ (those k × IsRivalBefore labels i k))

-- the later rivals of the label at i wait besides
abbrev pub AreWoken : List Row → ℕ → List Bool → List Bool → Type 0
AreWoken rows i before after =
    (k : ℕ) → k < length rows → IsTrue (slice_index_or after k false) ↔ (IsTrue (slice_index_or before k false) ⊎ IsRivalBefore (labels_in rows) i k)

-- the row at a place has another slot, and no other row has
pub record IsMovedAt (rows : List Row) (i : ℕ) (slot : Slot) (before after : List Moved) : Type 0 where
  pub here : present_at rows after i ≡ slot
  pub others : (k : ℕ) → k ≢ i → present_at rows after k ≡ present_at rows before k
  pub same : (n : ℕ) (own : Slot) → n ≢ number_at rows i → slot_for n own after ≡ slot_for n own before

-- the present slots are the longest choice with its blockers
abbrev pub AreSettled : List Row → List Moved → Type 0
AreSettled rows moved = AreSlots (number_at rows) (labels_in rows) (present_slots rows moved)

-- the label at a place has the slot that all labels before it leave
abbrev pub IsSettledAt : List Row → List Moved → ℕ → Type 0
IsSettledAt rows moved at = AreLeaving rows moved at true at (present_at rows moved at)
