-- What the steps of following come to.
use Rattle.std.specs.Prelude.{◌≡◌, ℕ, Bool, List, ◌++◌, Option, Result, Ok, Err, MatchBool}
use Rattle.ml_ratio.specs.Count.{one_more}
use Rattle.ml_io.specs.Calls.{Put}
use Rattle.ml_io.specs.Causes.{Appends, AppendsPart, IsCut}
use Rattle.ml_follow.specs.declared.state.State.{State}
use Rattle.ml_watch.specs.Hearing.{Hearing, AllHear}
use Rattle.ml_watch.specs.declared.change.Change.{Change}
use Rattle.ml_command.specs.FollowLines.{held_line}
use Rattle.ml_command.specs.Following.{Offered, IsOffer, Offers, lines_of, changes_of, joined, AllAdopted, SomeNotAdopted}
use Rattle.ml_command.specs.declared.following.Answer.{Answer}
use Rattle.ml_command.specs.declared.following.FollowEnd.{FollowEnd}
use Rattle.ml_command.specs.declared.following.FollowEnd.TheVariants as ends
use Rattle.ml_command.specs.declared.following.Halt.{Halt}
use Rattle.ml_command.specs.declared.following.Halt.TheVariants.{Memory, WriteFault}

-- how following ends that is halted
abbrev pub halted : Halt → FollowEnd
halted Memory = ends.Memory
halted WriteFault = ends.WriteFault

-- an answer with the changes that the watchers are told
abbrev pub offered : Answer → List Change → Offered
offered answer changes = record { line = answer.line.items; adopted = answer.adopted; changes = changes }

-- the state was offered and answered so, and the watchers were told what changed by it
abbrev pub IsHeardOffer : {W : Type 0} → (W → Hearing) → Option State → State → Offered → Option State → List W → List W → Type 0
IsHeardOffer hearing held state answer held_after crowd crowd_after = IsOffer held state answer held_after × AllHear hearing answer.changes crowd crowd_after

-- the same of an answer, whatever the changes are
abbrev pub IsOfferAnswered : {W : Type 0} → (W → Hearing) → Option State → State → Option State → List W → List W → Answer → Type 0
IsOfferAnswered hearing held state held_after crowd crowd_after answer =
    (changes : List Change) × IsHeardOffer hearing held state (offered answer changes) held_after crowd crowd_after

-- one state was offered, and its line printed, or a part of it; or memory was wanting, and all stays
abbrev pub IsOfferPrinted : {W : Type 0} → (W → Hearing) → Option State → State → Option State → List W → List W → Put → Result Bool Halt → Type 0
IsOfferPrinted hearing held state held_after crowd crowd_after put (Ok adopted) =
    (answer : Offered) × IsHeardOffer hearing held state answer held_after crowd crowd_after
    × Appends put.written put.written_after answer.line × (answer.adopted ≡ adopted) × (put.faults_after ≡ put.faults)
IsOfferPrinted hearing held state held_after crowd crowd_after put (Err WriteFault) =
    (answer : Offered) × IsHeardOffer hearing held state answer held_after crowd crowd_after
    × AppendsPart put.written put.written_after answer.line × (put.faults_after ≡ one_more put.faults)
IsOfferPrinted hearing held state held_after crowd crowd_after put (Err Memory) =
    (held_after ≡ held) × (crowd_after ≡ crowd) × (put.written_after ≡ put.written) × (put.faults_after ≡ put.faults)

-- states were offered and answered so, and the watchers were told what changed by them
pub record AreAnswered {W : Type 0} (hearing : W → Hearing) (held : Option State) (states : List State) (answers : List Offered) (held_after : Option State) (crowd crowd_after : List W) : Type 0 where
  pub offers : Offers held states answers held_after
  pub hears : AllHear hearing (changes_of answers) crowd crowd_after

-- the first of the states were answered, and these lines were printed
pub record AreFirstAnswered {W : Type 0} (hearing : W → Hearing) (held : Option State) (states : List State)
    (held_after : Option State) (crowd crowd_after : List W) (Printed : List (List ℕ) → Type 0) : Type 0 where
  pub front : List State
  pub rest : List State
  pub are : states ≡ front ++ rest
  pub answers : List Offered
  pub answered : AreAnswered hearing held front answers held_after crowd crowd_after
  pub printed : Printed (lines_of answers)

-- all states were offered, and all lines printed; or what was offered before output or memory failed
abbrev pub AreOffered : {W : Type 0} → (W → Hearing) → Option State → List State → Option State → List W → List W → Put → Result Bool Halt → Type 0
AreOffered hearing held states held_after crowd crowd_after put (Ok all) =
    (answers : List Offered) × AreAnswered hearing held states answers held_after crowd crowd_after
    × Appends put.written put.written_after (joined (lines_of answers)) × MatchBool all (AllAdopted answers) (SomeNotAdopted answers) × (put.faults_after ≡ put.faults)
AreOffered hearing held states held_after crowd crowd_after put (Err WriteFault) =
    AreFirstAnswered hearing held states held_after crowd crowd_after (λ lines. IsCut put.written put.written_after lines) × (put.faults_after ≡ one_more put.faults)
AreOffered hearing held states held_after crowd crowd_after put (Err Memory) =
    AreFirstAnswered hearing held states held_after crowd crowd_after (λ lines. Appends put.written put.written_after (joined lines)) × (put.faults_after ≡ put.faults)

-- the line of what is held was printed, or a part of it; or memory was wanting, and nothing was
abbrev pub IsHeldPrinted : Option State → Put → Result (Unit {0}) Halt → Type 0
IsHeldPrinted held put (Ok _) = Appends put.written put.written_after (held_line held) × (put.faults_after ≡ put.faults)
IsHeldPrinted held put (Err WriteFault) = AppendsPart put.written put.written_after (held_line held) × (put.faults_after ≡ one_more put.faults)
IsHeldPrinted held put (Err Memory) = (put.written_after ≡ put.written) × (put.faults_after ≡ put.faults)
