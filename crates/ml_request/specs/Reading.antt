-- What was read of a connection, piece by piece.
use Rattle.std.specs.Prelude.{◌≡◌, ℕ, ◌<◌, ◌≤◌, Bool, List, ◌++◌, length, Option, Some, None, Result, Ok, Err, Vec}
use Rattle.std.specs.declared.alloc.Global.{Global}
use Rattle.ml_ratio.specs.Count.{one_more}
use Rattle.ml_io.specs.Takes.{HasRunOut}
use Rattle.ml_request.specs.declared.request.Event.{Event}
use Rattle.ml_request.specs.declared.request.HeadEnd.{HeadEnd}
use Rattle.ml_request.specs.declared.request.HeadEnd.TheVariants.{Found, TooLong, InputEnded}
use Rattle.ml_request.specs.declared.request.ReadFault.{ReadFault}
use Rattle.ml_request.specs.declared.request.ReadFault.TheVariants.{Failed, Memory}
use Rattle.ml_request.specs.declared.request.Event.TheVariants.{Whole, Refused}
use Rattle.ml_request.specs.Request.{HeadParts}
use Rattle.ml_request.specs.Stream.{IsHeadSize, IsHeadTooLong, EndsInHead, HasNoEvent, BeginsWith, request_of}

-- the bytes held where the search for a head stopped
abbrev pub IsHeadEnd : List ℕ → Option (List ℕ) → HeadEnd → Type 0
IsHeadEnd held left (Found size) = IsHeadSize held size × (size ≤ 16384)
IsHeadEnd held left TooLong = IsHeadTooLong held
IsHeadEnd held left InputEnded = EndsInHead held × HasRunOut left

-- the faults of a source after a read of it: one more exactly where it failed
abbrev pub faults_after_read : {T : Type 0} → Result T ReadFault → ℕ → ℕ
faults_after_read (Ok _) faults = faults
faults_after_read (Err Failed) faults = one_more faults
faults_after_read (Err Memory) faults = faults

-- the count never falls; it rose by one where the source failed, and else not
pub record HasReadCause {T : Type 0} (before now : ℕ) (result : Result T ReadFault) : Type 0 where
  pub later : before ≤ now
  pub counted : now ≡ faults_after_read result before

-- of all these bytes a body of this size was read, and these are held behind it
abbrev pub IsBodyOf : ℕ → List ℕ → List ℕ → Option (List ℕ) → Result (Option (Vec ℕ Global)) ReadFault → Type 0
IsBodyOf size all held left (Ok (Some body)) = (all ≡ body.items ++ held) × (length body.items ≡ size)
IsBodyOf size all held left (Ok None) = (length all < size) × HasRunOut left
IsBodyOf size all held left (Err Failed) = length all < size
IsBodyOf size all held left (Err Memory) = Unit {0}

-- of all these bytes this event was read, and these are held behind it
abbrev pub IsEventOf : Bool → List ℕ → List ℕ → Option (List ℕ) → Result (Option Event) ReadFault → Type 0
IsEventOf last all held left (Ok (Some event)) = BeginsWith last all event held
IsEventOf last all held left (Ok None) = HasNoEvent all × HasRunOut left
IsEventOf last all held left (Err Failed) = HasNoEvent all
IsEventOf last all held left (Err Memory) = Unit {0}

-- behind a head that says this, of all these bytes a body was read, and these are held behind it
abbrev pub IsRequestOf : Bool → HeadParts → List ℕ → List ℕ → Option (List ℕ) → Result (Option Event) ReadFault → Type 0
IsRequestOf last parts all held left (Ok (Some (Whole request))) =
    (body : List ℕ) × (request ≡ request_of last parts body) × (all ≡ body ++ held) × (length body ≡ parts.length)
IsRequestOf last parts all held left (Ok (Some (Refused refusal))) = ⊥
IsRequestOf last parts all held left (Ok None) = (length all < parts.length) × HasRunOut left
IsRequestOf last parts all held left (Err Failed) = length all < parts.length
IsRequestOf last parts all held left (Err Memory) = Unit {0}
