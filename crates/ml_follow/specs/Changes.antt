-- What changes from one state to another. Labels are compared without their class and rank, which only say where they stand.
use Rattle.std.specs.Prelude.{ℕ, ℤ, ◌≡◌, ◌≢◌, ◌<◌, ◌↔◌, ◌⊎◌, List, length, map, slice_index_or, Option, Some, None, MatchOption, All, Contains, ◌++◌, ◌∷◌, []}
use Rattle.std.specs.Option.{option_map}
use Rattle.std.specs.Ordering.{nat_cmp}
use Rattle.std.specs.Cmp.Lexicographic.{slice_cmp}
use Rattle.std.specs.List.Sorted.{IsStrictlySortedBy}
use Rattle.ml_ratio.specs.declared.ratio.Ratio.{Ratio}
use Rattle.ml_cone.specs.Label.{IsLabelList}
use Rattle.ml_cone.specs.Places.{FindsPlaces, IsPlaceOf, IsNoId}
use Rattle.ml_cone.specs.Slots.{no_slot}
use Rattle.ml_cone.specs.declared.label.BoxPx.{BoxPx}
use Rattle.ml_cone.specs.declared.label.Label.{Label}
use Rattle.ml_cone.specs.declared.slot.Slot.{Slot}
use Rattle.ml_cone.specs.declared.slot.Span.{Span}
use Rattle.ml_watch.specs.declared.change.Change.{Change}
use Rattle.ml_watch.specs.ById.{HaveOwnIds}
use Rattle.ml_follow.specs.declared.changes.Listed.{Listed}
use Rattle.ml_follow.specs.declared.changes.RangedLabel.{RangedLabel}

-- a label without its class and rank
pub record Unplaced : Type 0 where
  pub id : List ℕ
  pub x : ℤ
  pub y : ℤ
  pub boxes : List BoxPx
  pub pieces : List (List ℕ)
  pub min : Ratio
  pub max : Ratio
  pub margin : ℕ

abbrev pub unplaced : Label → Unplaced
unplaced label = record {
  id = label.order.id;
  x = label.x;
  y = label.y;
  boxes = label.boxes;
  pieces = label.pieces;
  min = label.min;
  max = label.max;
  margin = label.margin;
}

-- a label without its class and rank, with its active range
pub record Ranged : Type 0 where
  pub label : Unplaced
  pub span : Span

-- at some place stands this label, it has the id, and this is its active range
pub record HasRanged (labels : List Label) (slots : List Slot) (id : List ℕ) (one : Ranged) : Type 0 where
  pub place : ℕ
  pub is_place : place < length labels
  pub its_label : (d : Label) → unplaced (slice_index_or labels place d) ≡ one.label
  pub its_id : one.label.id ≡ id
  pub its_span : one.span ≡ record { min = one.label.min; until = (slice_index_or slots place no_slot).until }

-- the label that has the id, with its active range, or none
abbrev pub IsStateOf : List Label → List Slot → List ℕ → Option Ranged → Type 0
IsStateOf labels slots id state = MatchOption state (IsNoId labels id) (HasRanged labels slots id)

-- the change of an id whose label or active range in the new state differs from that in the old one: the active ranges
pub record IsChange (labels : List Label) (slots : List Slot) (new_labels : List Label) (new_slots : List Slot) (change : Change) : Type 0 where
  pub was : Option Ranged
  pub is : Option Ranged
  pub state_before : IsStateOf labels slots change.id was
  pub state_after : IsStateOf new_labels new_slots change.id is
  pub differ : was ≢ is
  pub span_before : change.before ≡ option_map (λ one. one.span) was
  pub span_after : change.after ≡ option_map (λ one. one.span) is

-- the changes from one state to another: of each id that has one, in byte order of ids
pub record AreChanges (labels : List Label) (slots : List Slot) (new_labels : List Label) (new_slots : List Slot) (changes : List Change) : Type 0 where
  pub ascending : IsStrictlySortedBy (slice_cmp nat_cmp) (map (λ change. change.id) changes)
  pub sound : All (IsChange labels slots new_labels new_slots) changes
  pub whole : (change : Change) → IsChange labels slots new_labels new_slots change → Contains changes change

-- a list of labels with their slots and the place of each id is as it should be
pub record IsListed (listed : Listed) : Type 0 where
  pub one_slot : length listed.slots.now ≡ length listed.labels.now
  pub ordered : IsLabelList listed.labels.now
  pub finds : FindsPlaces listed.labels.now listed.places

-- a label that stands in a list
abbrev pub ranged_of : RangedLabel → Ranged
ranged_of ranged_label = record { label = unplaced ranged_label.label.now; span = ranged_label.span }

-- the same, if there is one
abbrev pub ranged : Option RangedLabel → Option Ranged
ranged ranged_label = option_map ranged_of ranged_label

-- the change of an id between two lists
abbrev pub IsChangeIn : Listed → Listed → Change → Type 0
IsChangeIn old new change = IsChange old.labels.now old.slots.now new.labels.now new.slots.now change

-- the change of this id, or none where its label and its active range stay
abbrev pub IsChangeOf : Listed → Listed → List ℕ → Option Change → Type 0
IsChangeOf old new id change = (c : Change) → (change ≡ Some c) ↔ (IsChangeIn old new c × (c.id ≡ id))

-- a change came in, if one was given
abbrev pub IsJoinedBy : Option Change → List Change → List Change → Type 0
IsJoinedBy None before after = after ≡ before
IsJoinedBy (Some change) before after = after ≡ before ++ change ∷ []

-- the change of this id came in, if there is one
abbrev pub IsTakenIn : Listed → Listed → List ℕ → List Change → List Change → Type 0
IsTakenIn old new id before after = (change : Option Change) × IsChangeOf old new id change × IsJoinedBy change before after

-- a label has the id
abbrev pub HasId : List Label → List ℕ → Type 0
HasId labels id = (place : ℕ) × IsPlaceOf labels id place

-- the change of this id came in, if there is one, where the new list does not have the id
abbrev pub IsTakenIfGone : Listed → Listed → List ℕ → List Change → List Change → Type 0
IsTakenIfGone old new id before after = (HasId new.labels.now id × (after ≡ before)) ⊎ (IsNoId new.labels.now id × IsTakenIn old new id before after)

-- the changes between two lists of the ids that `among` holds of, each once
pub record AreChangesAmong (old new : Listed) (among : List ℕ → Type 0) (changes : List Change) : Type 0 where
  pub are : (c : Change) → Contains changes c ↔ (IsChangeIn old new c × among c.id)
  pub own : HaveOwnIds changes
