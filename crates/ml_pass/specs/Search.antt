-- The search for the labels before a place that may bound the one there.
use Rattle.std.specs.Prelude.{ℕ, ◌<◌, ◌⊎◌, All, Contains, List, length, slice_index_or}
use Rattle.ml_ratio.specs.Fraction.{Fraction, value_of, IsAtMost}
use Rattle.ml_cone.specs.Choice.{IsEnd}
use Rattle.ml_cone.specs.Slots.{Rival, RivalAllows, row, no_slot}
use Rattle.ml_cone.specs.declared.label.Label.{Label}
use Rattle.ml_cone.specs.declared.slot.Slot.{Slot}
use Rattle.ml_conflict.specs.Begin.{SetsNoneUpTo}
use Rattle.ml_conflict.specs.Strip.{HasPlace}
use Rattle.ml_conflict.specs.declared.strip.Strip.{Strip}

-- the labels by their places, with the ends of their slots
abbrev pub rivals_in : List Label → List Slot → Label → ℕ → Rival
rivals_in labels slots d = row (λ j. j) labels slots d

-- the rivals before n that were seen are found or set `low` no limit up to the next bound; what was found before still is, and what is found leaves no end between the next bound and the one before
pub record IsSearched (low : Label) (rivals : ℕ → Rival) (n : ℕ) (seen : ℕ → Type 0) (bound next : Fraction) (before after : List ℕ) : Type 0 where
  pub within : All (λ j. j < n) before → All (λ j. j < n) after
  pub kept : (j : ℕ) → Contains before j → Contains after j
  pub less : IsAtMost next bound
  pub leave : (e : Fraction) → IsEnd low e → ((j : ℕ) → Contains after j → RivalAllows low e (rivals j)) → IsAtMost e bound → IsAtMost e next
  pub others : (j : ℕ) → seen j → j < n → Contains after j ⊎ SetsNoneUpTo low (rivals j).label (value_of (rivals j).until) next

-- the slot at j is empty: it ends where the label's selectable range begins
abbrev pub IsIdle : List Label → List Slot → ℕ → Type 0
IsIdle labels slots j = (d : Label) → IsAtMost (value_of (slice_index_or slots j no_slot).until) (value_of (slice_index_or labels j d).min)

-- the strips have the place of each label whose slot is not empty
abbrev pub AreHeld : List Label → List Slot → List Strip → Type 0
AreHeld labels slots strips = (j : ℕ) → j < length slots → HasPlace strips j ⊎ IsIdle labels slots j
