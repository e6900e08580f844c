-- Changes see of a slot the end alone.
use Rattle.std.proofs.Common.{◌≡◌, ℕ, ◌<◌, List, length, get_or, Option, Some, None, sym, ap, ◌∙◌}
use Rattle.std.proofs.lemmas.List.Elements.{All-weaker}
use Rattle.ml_cone.specs.Slots.{no_slot}
use Rattle.ml_cone.specs.declared.label.Label.{Label}
use Rattle.ml_cone.specs.declared.slot.Slot.{Slot}
use Rattle.ml_cone.specs.declared.slot.Span.{Span}
use Rattle.ml_ratio.specs.declared.ratio.Ratio.{Ratio}
use Rattle.ml_watch.specs.declared.change.Change.{Change}
use Rattle.ml_repair.specs.Changes.{Ranged, IsStateOf, IsChange, AreChanges}

-- the slots of these labels have the same ends
abbrev pub SameEnds : List Label → List Slot → List Slot → Type 0
SameEnds labels slots others = (p : ℕ) → p < length labels → (get_or slots p no_slot).until ≡ (get_or others p no_slot).until

-- where some slots end as others do, the others end as they do
pub turned : (labels : List Label) (slots others : List Slot) → SameEnds labels slots others → SameEnds labels others slots
turned labels slots others same p within = sym (same p within)

state_moved : (labels : List Label) (slots others : List Slot) → SameEnds labels slots others →
    (id : List ℕ) (state : Option Ranged) → IsStateOf labels slots id state → IsStateOf labels others id state
state_moved labels slots others same id None is = is
state_moved labels slots others same id (Some one) is = record {
  place = is.place;
  is_place = is.is_place;
  its_label = is.its_label;
  its_id = is.its_id;
  its_span = is.its_span ∙ ap (λ (u : Ratio). let span : Span = record { min = one.label.min; until = u } in span) (same is.place is.is_place);
}

change_moved : (labels : List Label) (slots others : List Slot) (new_labels : List Label) (new_slots new_others : List Slot) → SameEnds labels slots others → SameEnds new_labels new_slots new_others →
    (change : Change) → IsChange labels slots new_labels new_slots change → IsChange labels others new_labels new_others change
change_moved labels slots others new_labels new_slots new_others same new_same change is = record {
  was = is.was;
  is = is.is;
  state_before = state_moved labels slots others same change.id is.was is.state_before;
  state_after = state_moved new_labels new_slots new_others new_same change.id is.is is.state_after;
  differ = is.differ;
  span_before = is.span_before;
  span_after = is.span_after;
}

-- changes between labels with their slots are those with other slots of the same ends
pub changes_moved : (labels : List Label) (slots others : List Slot) (new_labels : List Label) (new_slots new_others : List Slot) →
    SameEnds labels slots others → SameEnds new_labels new_slots new_others → (changes : List Change) →
    AreChanges labels slots new_labels new_slots changes → AreChanges labels others new_labels new_others changes
changes_moved labels slots others new_labels new_slots new_others same new_same changes are = record {
  ascending = are.ascending;
  sound = All-weaker (IsChange labels slots new_labels new_slots) (IsChange labels others new_labels new_others)
      (change_moved labels slots others new_labels new_slots new_others same new_same) changes are.sound;
  whole = λ change is. are.whole change (change_moved labels others slots new_labels new_others new_slots
      (turned labels slots others same) (turned new_labels new_slots new_others new_same) change is);
}
