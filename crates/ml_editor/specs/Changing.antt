-- What changes where all labels of a map are made anew.
use Rattle.std.specs.Prelude.{◌≡◌, ◌↔◌, ℕ, List, Option, Some, Contains}
use Rattle.std.specs.Option.{option_map}
use Rattle.ml_ratio.specs.declared.feature.Feature.{Feature}
use Rattle.ml_watch.specs.declared.change.Change.{Change}
use Rattle.ml_store.specs.Rows.{labels_in, slots_in}
use Rattle.ml_store.specs.declared.row.Row.{Row}
use Rattle.ml_repair.specs.Changes.{Ranged, IsChange}
use Rattle.ml_repair.specs.Stays.{IsJoinedBy}
use Rattle.ml_watch.specs.ById.{HaveOwnIds}
use Rattle.ml_editor.specs.State.{HasFeature}
use Rattle.ml_editor.specs.declared.changes.RangedLabel.{RangedLabel}

-- a label that is held, with its active range
abbrev pub ranged_of : RangedLabel → Ranged
ranged_of held = record { label = held.label.now; span = held.span }

-- the same, if there is one
abbrev pub ranged : Option RangedLabel → Option Ranged
ranged held = option_map ranged_of held

-- the change of an id between the labels of two engines
abbrev pub IsChangeIn : List Row → List Row → Change → Type 0
IsChangeIn old new change = IsChange (labels_in old) (slots_in old) (labels_in new) (slots_in new) change

-- the change of this id, or none where its label and its active range stay
abbrev pub IsChangeOf : List Row → List Row → List ℕ → Option Change → Type 0
IsChangeOf old new id change = (c : Change) → (change ≡ Some c) ↔ (IsChangeIn old new c × (c.id ≡ id))

-- the change of this id came in, if there is one
abbrev pub IsTakenIn : List Row → List Row → List ℕ → List Change → List Change → Type 0
IsTakenIn old new id before after = (change : Option Change) × IsChangeOf old new id change × IsJoinedBy change before after

-- the changes of the ids of these features, each once
pub record AreChangesAt (old new : List Row) (features : List Feature) (changes : List Change) : Type 0 where
  pub are : (c : Change) → Contains changes c ↔ (IsChangeIn old new c × HasFeature features c.id)
  pub own : HaveOwnIds changes
