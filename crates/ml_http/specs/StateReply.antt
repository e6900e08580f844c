-- The state of the labels as a text.
use Rattle.std.specs.Prelude.{◌≡◌, ℕ, ◌<◌, Bool, List, [], ◌∷◌, ◌++◌, length, slice_get, slice_index, Option, Some, None, MatchOption, Contains}
use Rattle.ml_cone.specs.Slots.{AreSlots}
use Rattle.ml_cone.specs.declared.label.Label.{Label}
use Rattle.ml_cone.specs.declared.slot.Slot.{Slot}
use Rattle.ml_label.specs.Labels.{AreLabelsOf}
use Rattle.ml_editor.specs.State.{State}
use Rattle.ml_follow.specs.StateText.{state_text, begun_text}
use Rattle.ml_store.specs.Rows.{number_at}
use Rattle.ml_store.specs.declared.row.Row.{Row}
use Rattle.ml_http.specs.declared.kind.Kind.TheVariants.{Text}
use Rattle.ml_http.specs.Reply.{reply_text}

-- the text tells the revision and the labels of the features in priority order, with the longest choice and its blockers, each by its place
abbrev pub IsStateText : State → List ℕ → Type 0
IsStateText s text =
    (labels : List Label) × AreLabelsOf s.style s.features labels × ((slots : List Slot) × AreSlots (λ j. j) labels slots × (text ≡ state_text s.rev labels slots))

-- the reply with this text
abbrev pub IsStateReply : State → Bool → List ℕ → Type 0
IsStateReply s closes reply = (text : List ℕ) × IsStateText s text × (reply ≡ reply_text 200 Text None closes text)

-- by each of the numbers stands its place
abbrev pub ArePlacesOf : List ℕ → List ℕ → Type 0
ArePlacesOf numbers places = (k : ℕ) → k < length numbers → slice_get places (slice_index numbers k) ≡ Some k

-- what stands by a number, if there is one
abbrev pub IsPlaceOf : List ℕ → Option ℕ → Option ℕ → Type 0
IsPlaceOf places None place = place ≡ None
IsPlaceOf places (Some number) place = place ≡ slice_get places number

-- the slot ends at the same scale, and its blocker is told by its place among the rows
abbrev pub IsToldByPlace : List Row → Slot → Slot → Type 0
IsToldByPlace rows slot placed =
    (placed.until ≡ slot.until)
    × MatchOption slot.blocker (placed.blocker ≡ None) (λ n. (p : ℕ) × (p < length rows) × (number_at rows p ≡ n) × (placed.blocker ≡ Some p))

-- the label with this number was added to the text of a state, with its slot
pub record IsRowAdded (rows : List Row) (number : ℕ) (old new : List ℕ) : Type 0 where
  pub row : Row
  pub there : Contains rows row
  pub its_number : row.number ≡ number
  pub slot : Slot
  pub placed : IsToldByPlace rows row.slot slot
  pub added : (rev count : ℕ) (labels : List Label) (slots : List Slot) → length slots ≡ length labels →
      old ≡ begun_text rev count labels slots → new ≡ begun_text rev count (labels ++ row.label ∷ []) (slots ++ slot ∷ [])
