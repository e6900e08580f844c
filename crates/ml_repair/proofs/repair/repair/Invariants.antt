use Rattle.std.proofs.Common.{ℕ, ◌≡◌, ◌+◌, ◌-◌, ◌≤◌, List, Bool, false, length, get_or}
use Rattle.std.specs.Prelude.{IsTrue, if◌then◌else◌}
use Rattle.ml_store.specs.Rows.{number_at, labels_in}
use Rattle.ml_store.specs.declared.row.Row.{Row}
use Rattle.ml_store.specs.declared.moved.Moved.{Moved}
use Rattle.ml_cone.specs.Slots.{ends}
use Rattle.ml_cone.specs.declared.slot.Slot.{Slot}
use Rattle.ml_repair.specs.Kept.{AreChanged}
use Rattle.ml_repair.specs.Plan.{slot_for}
use Rattle.ml_repair.specs.Repair.{present_slots}
use Rattle.ml_repair.proofs.Repairing.{Repairing}
use Rattle.ml_repair.proofs.repair.repair.Given as goal

-- the loop's state, its counter and its steps
pub record Running (rows : List Row) (old : List Moved) (at : ℕ) (comes : Bool) (i : ℕ) (new : List Moved) (waiting : List Bool) (changed : List ℕ) (n before after : ℕ) : Type 0 where
  pub repairing : Repairing (number_at rows) (labels_in rows) (present_slots rows old) at comes i (present_slots rows new) (λ k. IsTrue (get_or waiting k false)) n
  pub one_wait : length waiting ≡ length rows
  pub spent : after + (if comes then 1 else 0) ≡ before + n
  pub few : n ≤ i
  pub far : i ≤ length rows
  pub kept : (own : Slot) → slot_for (number_at rows at) own new ≡ slot_for (number_at rows at) own old
  pub noted : AreChanged (ends (present_slots rows old)) (ends (present_slots rows new)) at comes i changed

abbrev pub invariant-loop-i : goal.invariant-loop-i
invariant-loop-i g l = (l.many ≡ length l.roster) × Running l.roster l.fn.moves l.at l.comes l.i l.moves l.waiting l.changed.items l.evaluated l.fn.steps l.steps

abbrev pub decreases-loop-i : goal.decreases-loop-i
decreases-loop-i g l = l.many - l.i
