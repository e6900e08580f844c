-- What a follower holds, and which states it adopts.
use Rattle.std.specs.Prelude.{◌≡◌, ℕ, ◌≤◌, List, [], length, Option, Some, None, MatchOption, IfSome, Result, Ok, Err, ◌⊎◌}
use Rattle.ml_ratio.specs.Limits.{most_labels}
use Rattle.ml_cone.specs.Label.{IsLabelList}
use Rattle.ml_cone.specs.Slots.{AreSlots}
use Rattle.ml_cone.specs.declared.label.Label.{Label}
use Rattle.ml_cone.specs.declared.slot.Slot.{Slot}
use Rattle.ml_watch.specs.Hearing.{Hearing, AllHear}
use Rattle.ml_watch.specs.declared.change.Change.{Change}
use Rattle.ml_cert.specs.Judged.{IsVerdict}
use Rattle.ml_follow.specs.Changes.{AreChanges}
use Rattle.ml_follow.specs.declared.state.State.{State}
use Rattle.ml_follow.specs.declared.fault.OfferFault.{OfferFault}
use Rattle.ml_follow.specs.declared.fault.OfferFault.TheVariants.{Stale, NotBest, Memory}

-- the labels that are held
abbrev pub held_labels : Option State → List Label
held_labels None = []
held_labels (Some state) = state.labels

-- the slots that are held
abbrev pub held_slots : Option State → List Slot
held_slots None = []
held_slots (Some state) = state.slots

-- the slots of the state are the longest choice with its blockers, each given by its place
abbrev pub IsBest : State → Type 0
IsBest state = AreSlots (λ j. j) state.labels state.slots

-- a state that may be held: labels in priority order with different ids, at most 32,768, with the longest choice and its blockers
pub record IsAdopted (state : State) : Type 0 where
  pub ordered : IsLabelList state.labels
  pub few : length state.labels ≤ most_labels
  pub best : IsBest state

-- nothing is held, or a state that may be
abbrev pub MayBeHeld : Option State → Type 0
MayBeHeld held = IfSome held IsAdopted

-- a state is held with this revision, and the offered revision is not above it
abbrev pub IsStaleBy : Option State → ℕ → ℕ → Type 0
IsStaleBy held rev now = MatchOption held ⊥ (λ state. (state.rev ≡ now) × (rev ≤ now))

-- a state is held, and the offered revision is not above its revision
abbrev pub IsStale : Option State → ℕ → Type 0
IsStale held rev = (now : ℕ) × IsStaleBy held rev now

-- the state is to be adopted: it is not stale, and its slots are the longest choice with its blockers
pub record IsDue (held : Option State) (state : State) : Type 0 where
  pub new : ¬ (IsStale held state.rev)
  pub best : IsBest state

-- what each refusal says of the state that was offered; out of memory says nothing
abbrev pub IsOfferFault : Option State → State → OfferFault → Type 0
IsOfferFault held state (Stale now) = IsStaleBy held state.rev now
IsOfferFault held state (NotBest verdict) = ¬ (IsStale held state.rev) × ¬ (IsBest state) × IsVerdict state.labels state.slots verdict
IsOfferFault held state Memory = Unit {0}

-- the state is adopted, or memory is wanting
abbrev pub Adopts : Result (Unit {0}) OfferFault → Type 0
Adopts result = (result ≡ Ok tt) ⊎ (result ≡ Err Memory)

-- the crowd was told the changes from what was held to the state
abbrev pub AreTold : {W : Type 0} → (W → Hearing) → Option State → State → List W → List W → Type 0
AreTold hearing held state old new =
    (changes : List Change) × AreChanges (held_labels held) (held_slots held) state.labels state.slots changes × AllHear hearing changes old new
