-- What an edit changes: the labels and active ranges before it and after it, each as labels in order with one slot each.
use Rattle.std.specs.Prelude.{ℕ, ◌≡◌, ◌≢◌, ◌<◌, List, length, map, slice_index_or, Option, MatchOption, All, Contains}
use Rattle.std.specs.Option.{option_map}
use Rattle.std.specs.Ordering.{nat_cmp}
use Rattle.std.specs.Cmp.Lexicographic.{slice_cmp}
use Rattle.std.specs.List.Sorted.{IsStrictlySortedBy}
use Rattle.ml_cone.specs.Slots.{no_slot}
use Rattle.ml_cone.specs.declared.label.Label.{Label}
use Rattle.ml_cone.specs.declared.slot.Slot.{Slot}
use Rattle.ml_cone.specs.declared.slot.Span.{Span}
use Rattle.ml_watch.specs.declared.change.Change.{Change}
use Rattle.ml_store.specs.declared.row.Row.{Row}

-- a label with its active range
pub record Ranged : Type 0 where
  pub label : Label
  pub span : Span

-- at some place stands this label, it has the id, and this is its active range
pub record IsStanding (labels : List Label) (slots : List Slot) (id : List ℕ) (one : Ranged) : Type 0 where
  pub place : ℕ
  pub is_place : place < length labels
  pub its_label : (d : Label) → slice_index_or labels place d ≡ one.label
  pub its_id : one.label.order.id ≡ id
  pub its_span : one.span ≡ record { min = one.label.min; until = (slice_index_or slots place no_slot).until }

-- no label has the id
abbrev pub IsAbsent : List Label → List ℕ → Type 0
IsAbsent labels id = All (λ a. a.order.id ≢ id) labels

-- the label that has the id, with its active range, or none
abbrev pub IsStateOf : List Label → List Slot → List ℕ → Option Ranged → Type 0
IsStateOf labels slots id state = MatchOption state (IsAbsent labels id) (IsStanding labels slots id)

-- the change of an id whose label or active range after an edit differs from that before it: the active ranges
pub record IsChange (labels : List Label) (slots : List Slot) (new_labels : List Label) (new_slots : List Slot) (change : Change) : Type 0 where
  pub was : Option Ranged
  pub is : Option Ranged
  pub state_before : IsStateOf labels slots change.id was
  pub state_after : IsStateOf new_labels new_slots change.id is
  pub differ : was ≢ is
  pub span_before : change.before ≡ option_map (λ one. one.span) was
  pub span_after : change.after ≡ option_map (λ one. one.span) is

-- the changes of an edit: of each id that it changes, in byte order of ids
pub record AreChanges (labels : List Label) (slots : List Slot) (new_labels : List Label) (new_slots : List Slot) (changes : List Change) : Type 0 where
  pub ascending : IsStrictlySortedBy (slice_cmp nat_cmp) (map (λ change. change.id) changes)
  pub sound : All (IsChange labels slots new_labels new_slots) changes
  pub whole : (change : Change) → IsChange labels slots new_labels new_slots change → Contains changes change

-- the active range of a live label
abbrev pub span_of : Row → Span
span_of row = record { min = row.label.min; until = row.slot.until }

-- the id is that of one of the changes
abbrev pub IsChanged : List Change → List ℕ → Type 0
IsChanged changes id = (change : Change) × Contains changes change × (change.id ≡ id)

-- the row's label stands among these rows, with the same end
abbrev pub StandsAmong : List Row → Row → Type 0
StandsAmong rows row = (other : Row) × Contains rows other × (other.label ≡ row.label) × (other.slot.until ≡ row.slot.until)

-- what a change tells of an id: no label has it, or one has, with this active range
abbrev pub IsTold : List Row → List ℕ → Option Span → Type 0
IsTold rows id told = MatchOption told ((row : Row) → Contains rows row → row.label.order.id ≢ id) (λ span. (row : Row) × Contains rows row × (row.label.order.id ≡ id) × (span ≡ span_of row))
