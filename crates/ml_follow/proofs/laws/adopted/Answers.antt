use Rattle.std.proofs.Common.{ℕ, List, sym, subst}
use Rattle.ml_cone.specs.Slots.{AreSlots}
use Rattle.ml_cone.specs.declared.slot.Slot.{Slot}
use Rattle.ml_follow.specs.Follower.{IsStale}
use Rattle.ml_follow.proofs.ReadsBack.{text_reads_back}
use Rattle.ml_follow.proofs.SameChoice.{best_alike}
use Rattle.ml_follow.proofs.laws.adopted.Goals as goal

pub returns : goal.returns
returns c held rev labels slots told best fresh =
    let back = text_reads_back c.visible_ids.ensures rev labels slots told in
    let state = back.0 in
    let same = back.2 in (
      state,
      back.1,
      same,
      record {
        new = subst (λ (r : ℕ). ¬ (IsStale held r)) (sym same.rev_is) fresh;
        best = subst (λ (ss : List Slot). AreSlots (λ j. j) state.labels ss) (sym same.slots_are) (best_alike c.sound_slots.ensures labels state.labels slots same.labels_are best);
      },
    )
