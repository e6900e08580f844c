-- Slots of which nothing is wrong are the longest choice with its blockers, and the other way round.
use Rattle.std.proofs.Common.{◌≡◌, ℕ, ◌<◌, List, length, get_or, Option, Some, None, inl, inr}
use Rattle.ml_cone.specs.Choice.{Choice}
use Rattle.ml_cone.specs.Slots.{IsBlockerBy, AreSlots, ends, no_slot}
use Rattle.ml_cone.specs.Sound.{IsSound, IsCovered}
use Rattle.ml_cone.specs.declared.label.Label.{Label}
use Rattle.ml_cone.specs.declared.slot.Slot.{Slot}
use Rattle.ml_conflict.proofs.Own.{own_of_blocked, own_longest}

covered_of : (labels : List Label) (c : Choice) (i : ℕ) (b : Option ℕ) → IsBlockerBy (λ j. j) labels c i b → IsCovered labels c i
covered_of labels c i None h = inl h
covered_of labels c i (Some n) h = inr (h.0, h.2)

-- slots of which nothing is wrong are the longest choice with its blockers
pub slots_of_sound : (labels : List Label) (slots : List Slot) → length slots ≡ length labels → ((i : ℕ) → i < length labels → IsSound labels slots i) → AreSlots (λ j. j) labels slots
slots_of_sound labels slots e sound =
    record {
      one_slot = e;
      longest = own_longest labels (ends slots) (λ i in'.
          let s = sound i in' in
          own_of_blocked labels (ends slots) i in' s.good_end (λ j d lt. s.free j lt d) s.covered);
      blockers = λ i in'. (sound i in').blocker;
    }

-- nothing is wrong of any slot of the longest choice with its blockers
pub sound_of_slots : (labels : List Label) (slots : List Slot) → AreSlots (λ j. j) labels slots → (i : ℕ) → i < length labels → IsSound labels slots i
sound_of_slots labels slots best i in' =
    record {
      good_end = λ d. best.longest.is_choice i d in';
      free = λ j lt d. best.longest.free j i d lt in';
      covered = covered_of labels (ends slots) i (get_or slots i no_slot).blocker (best.blockers i in');
      blocker = best.blockers i in';
    }
