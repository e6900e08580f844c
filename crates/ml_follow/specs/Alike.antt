-- What a state's text tells of labels.
use Rattle.std.specs.Prelude.{◌≡◌, ◌≢◌, ℕ, ◌^◌, ◌<◌, ◌≤◌, List, length, slice_index_or, All, IsUtf8}
use Rattle.ml_ratio.specs.Limits.{most_labels}
use Rattle.ml_cone.specs.declared.label.Label.{Label}
use Rattle.ml_cone.specs.declared.slot.Slot.{Slot}
use Rattle.ml_pass.specs.SlotsText.{IsBlockerPlace}
use Rattle.ml_follow.specs.declared.state.State.{State}

-- the labels have the same id, anchor, boxes, selectable range and margin
pub record IsAlike (one other : Label) : Type 0 where
  pub same_id : one.order.id ≡ other.order.id
  pub same_x : one.x ≡ other.x
  pub same_y : one.y ≡ other.y
  pub same_boxes : one.boxes ≡ other.boxes
  pub same_min : one.min ≡ other.min
  pub same_max : one.max ≡ other.max
  pub same_margin : one.margin ≡ other.margin

-- labels, each alike with the other at its place
pub record AreAllAlike (labels others : List Label) : Type 0 where
  pub one_each : length others ≡ length labels
  pub alike : (i : ℕ) (d : Label) → i < length labels → IsAlike (slice_index_or labels i d) (slice_index_or others i d)

-- the state has this revision, such labels in this order, and these slots
pub record IsStateWith (rev : ℕ) (labels : List Label) (slots : List Slot) (state : State) : Type 0 where
  pub rev_is : state.rev ≡ rev
  pub labels_are : AreAllAlike labels state.labels
  pub slots_are : state.slots ≡ slots

-- a revision of at most 2^53, at most 32,768 labels whose ids are texts that differ, and a slot for each, with blockers by place
pub record IsTold (rev : ℕ) (labels : List Label) (slots : List Slot) : Type 0 where
  pub low_rev : rev ≤ 2 ^ 53
  pub few : length labels ≤ most_labels
  pub one_slot : length slots ≡ length labels
  pub texts : All (λ label. IsUtf8 label.order.id) labels
  pub differ : (i j : ℕ) (d : Label) → i < j → j < length labels → (slice_index_or labels i d).order.id ≢ (slice_index_or labels j d).order.id
  pub placed : All (λ slot. IsBlockerPlace labels slot.blocker) slots
