-- What comes of an edit that is asked for.
use Rattle.std.specs.Prelude.{◌≡◌, ◌≢◌, ℕ, ◌+◌, Option, Result, IfOk, IsOkUnless, MatchResult}
use Rattle.ml_ratio.specs.Refusal.{RefusesExactly}
use Rattle.ml_editor.specs.Editing.{Editing, Prepared, IsReady, IsSameMap, HasRoomFor}
use Rattle.ml_editor.specs.Faults.{Wish, IsGranted, IsFault}
use Rattle.ml_editor.specs.declared.edit.Edit.{Edit}
use Rattle.ml_editor.specs.declared.fault.EditFault.{EditFault}
use Rattle.ml_editor.specs.declared.fault.EditFault.TheVariants.{Memory}

-- it is ready, for just the present state and with its room, or it is refused by just the fault that refuses it, or memory is wanting; and of the map nothing changes but the room
pub record IsPrepared (old new : Editing) (rev : Option ℕ) (wish : Wish) (result : Result Prepared EditFault) : Type 0 where
  pub ok : IfOk result (λ ready. IsGranted old.state rev wish ready.edit)
  pub ready : IfOk result (λ ready. IsReady ready new.state new.engine.rows)
  pub room : IfOk result (λ ready. HasRoomFor ready new)
  pub accepted : (edit : Edit) → IsGranted old.state rev wish edit → IsOkUnless result Memory
  pub refused : (fault : EditFault) → fault ≢ Memory → RefusesExactly result fault Memory (IsFault old.state rev wish fault)
  pub same : IsSameMap old new

-- a step was spent for each label that was evaluated, and none where it is refused
abbrev pub IsPaid : ℕ → ℕ → Result Prepared EditFault → Type 0
IsPaid before after result = MatchResult result (λ ready. after ≡ before + ready.evaluated) (λ e. e ≢ Memory → after ≡ before)
