-- States of a file that are offered to a follower, one after another, and what is printed of them.
use Rattle.std.specs.Prelude.{◌≡◌, ◌⊎◌, ℕ, Bool, true, false, List, [], ◌∷◌, ◌++◌, length, map, flat_map, All, Any, codes, decimal, Option, Some, None}
use Rattle.ml_io.specs.Calls.{Put}
use Rattle.ml_ratio.specs.Count.{one_more}
use Rattle.ml_io.specs.Causes.{Appends, IsCut}
use Rattle.ml_io.specs.Files.{FileSet, Seen, IsLoaded}
use Rattle.ml_cert.specs.Judged.{IsVerdict}
use Rattle.ml_cert.specs.declared.verdict.Verdict.{Verdict}
use Rattle.ml_follow.specs.Changes.{AreChanges}
use Rattle.ml_follow.specs.Follower.{held_labels, held_slots, IsBest, IsDue, IsStale, IsStaleBy}
use Rattle.ml_follow.specs.States.{AreStates, IsStatesFault}
use Rattle.ml_follow.specs.declared.fault.StateFault.{StateFault}
use Rattle.ml_follow.specs.declared.fault.StateFault.TheVariants as state_fault
use Rattle.ml_follow.specs.declared.state.State.{State}
use Rattle.ml_watch.specs.Hearing.{Hearing, AllHear}
use Rattle.ml_watch.specs.declared.change.Change.{Change}
use Rattle.ml_command.specs.FollowLines.{spelled_ids, adopted_line, stale_line, refused_line, held_line}
use Rattle.ml_command.specs.Inputs.{most_bytes, IsNoLine, IsReadStop}
use Rattle.ml_command.specs.declared.following.FollowEnd.{FollowEnd}
use Rattle.ml_command.specs.declared.following.FollowEnd.TheVariants.{Adopted, NotAdopted, WriteFault, Memory}
use Rattle.ml_command.specs.declared.stop.Stop.{Stop}

-- what an offered state is answered: its line, whether it was adopted, and the changes that the watchers are told
pub record Offered : Type 0 where
  pub line : List ℕ
  pub adopted : Bool
  pub changes : List Change

-- the state is due: it is held from now on, and the watchers are told what changes by it
pub record IsAdoption (held : Option State) (state : State) (answer : Offered) (after : Option State) : Type 0 where
  pub due : IsDue held state
  pub held_is : after ≡ Some state
  pub changes : AreChanges (held_labels held) (held_slots held) state.labels state.slots answer.changes
  pub line_is : answer.line ≡ adopted_line state.rev (length state.labels)
  pub says : answer.adopted ≡ true

-- the state is passed over with this line, and all stays
pub record IsPassedOver (held : Option State) (line : List ℕ) (answer : Offered) (after : Option State) : Type 0 where
  pub held_is : after ≡ held
  pub changes : answer.changes ≡ []
  pub line_is : answer.line ≡ line
  pub says : answer.adopted ≡ false

-- the state is stale
abbrev pub IsStaleOffer : Option State → State → Offered → Option State → Type 0
IsStaleOffer held state answer after = (now : ℕ) × IsStaleBy held state.rev now × IsPassedOver held (stale_line state.rev now) answer after

-- the state is not stale, but its slots are not the longest choice with its blockers
abbrev pub IsRefusedOffer : Option State → State → Offered → Option State → Type 0
IsRefusedOffer held state answer after =
    (verdict : Verdict) × (¬ (IsStale held state.rev)) × (¬ (IsBest state)) × IsVerdict state.labels state.slots verdict
    × IsPassedOver held (refused_line state.rev (spelled_ids state.labels) verdict) answer after

-- a follower that holds this is offered the state, answers so, and holds that afterwards
abbrev pub IsOffer : Option State → State → Offered → Option State → Type 0
IsOffer held state answer after = IsAdoption held state answer after ⊎ (IsStaleOffer held state answer after ⊎ IsRefusedOffer held state answer after)

-- states are offered one after another
abbrev pub Offers : Option State → List State → List Offered → Option State → Type 0
Offers held [] [] after = after ≡ held
Offers held [] (answer ∷ answers) after = ⊥
Offers held (state ∷ states) [] after = ⊥
Offers held (state ∷ states) (answer ∷ answers) after = (mid : Option State) × IsOffer held state answer mid × Offers mid states answers after

-- the lines of answers
abbrev pub lines_of : List Offered → List (List ℕ)
lines_of answers = map (λ answer. answer.line) answers

-- the changes of answers, in order
abbrev pub changes_of : List Offered → List Change
changes_of answers = flat_map (λ answer. answer.changes) answers

-- texts, one behind the other
abbrev pub joined : List (List ℕ) → List ℕ
joined texts = flat_map (λ text. text) texts

-- all answers adopt, and some answer does not
abbrev pub AllAdopted : List Offered → Type 0
AllAdopted answers = All (λ answer. answer.adopted ≡ true) answers

abbrev pub SomeNotAdopted : List Offered → Type 0
SomeNotAdopted answers = Any (λ answer. answer.adopted ≡ false) answers

-- which states of a file were offered, from the first on, what they were answered, and what is held afterwards
pub record Following (states : List State) : Type 0 where
  pub offered : List State
  pub rest : List State
  pub are : states ≡ offered ++ rest
  pub answers : List Offered
  pub held : Option State
  pub offers : Offers None offered answers held

-- all states were offered, and all lines were printed; the output did not fail
pub record IsPrintedWhole {states : List State} (f : Following states) (out : Put) : Type 0 where
  pub all : f.rest ≡ []
  pub wrote : Appends out.written out.written_after (joined (lines_of f.answers) ++ held_line f.held)
  pub calm : out.faults_after ≡ out.faults

-- the lines of what was offered were printed, but of the last line a part that is not the whole, since the output failed once
pub record IsPrintedInPart {states : List State} (f : Following states) (out : Put) : Type 0 where
  pub wrote : IsCut out.written out.written_after (lines_of f.answers)
      ⊎ ((f.rest ≡ []) × IsCut out.written out.written_after (lines_of f.answers ++ held_line f.held ∷ []))
  pub failed : out.faults_after ≡ one_more out.faults

-- how following ended: all states were offered and adopted, or all were offered and not all adopted; or, after some of them, the output failed or memory was wanting
abbrev pub IsEndOfFollowing : {states : List State} → Following states → Put → FollowEnd → Type 0
IsEndOfFollowing f out Adopted = IsPrintedWhole f out × AllAdopted f.answers
IsEndOfFollowing f out NotAdopted = IsPrintedWhole f out × SomeNotAdopted f.answers
IsEndOfFollowing f out WriteFault = IsPrintedInPart f out
IsEndOfFollowing f out Memory = Appends out.written out.written_after (joined (lines_of f.answers)) × (out.faults_after ≡ out.faults)

-- the states were followed so: the watchers were told the changes of all that were adopted, together and in order
pub record IsFollowed {W : Type 0} (hearing : W → Hearing) (states : List State) (crowd crowd_after : List W) (out : Put) (end : FollowEnd) : Type 0 where
  pub following : Following states
  pub ended : IsEndOfFollowing following out end
  pub hears : AllHear hearing (changes_of following.answers) crowd crowd_after

-- the named file holds these states
abbrev pub HasStates : Option FileSet → List ℕ → List State → Type 0
HasStates told name states = (bytes : List ℕ) × IsLoaded told name most_bytes bytes × AreStates bytes states

-- the line that says why a file of states is refused; there is none for out of memory
abbrev pub IsStatesLine : StateFault → List ℕ → Type 0
IsStatesLine (state_fault.BadState k) line = line ≡ codes "states refused: 1 BadState " ++ (decimal k ++ codes "\n")
IsStatesLine state_fault.Memory line = ⊥

-- the named file holds no states, as the line says
abbrev pub AreNoStates : Option FileSet → List ℕ → List ℕ → Type 0
AreNoStates told name line =
    (bytes : List ℕ) × (fault : StateFault) × IsLoaded told name most_bytes bytes × IsStatesFault bytes fault × IsStatesLine fault line

-- why the named states were not read
abbrev pub IsStatesStop : Seen → List ℕ → Stop → Type 0
IsStatesStop seen name s = IsReadStop IsNoLine (AreNoStates seen.told name) seen name s
