-- What `serve` prints, and how it ends.
use Rattle.std.specs.Prelude.{◌≡◌, ℕ, ◌<◌, ◌≤◌, ◌⊎◌, Bool, true, false, List, [], ◌∷◌, ◌++◌, flat_map, codes, Option}
use Rattle.std.specs.Fmt.{decimal}
use Rattle.ml_ratio.specs.Count.{one_more}
use Rattle.ml_io.specs.Causes.{Appends, AppendsPart, IsCut}
use Rattle.ml_io.specs.Takes.{HasRunOut}
use Rattle.ml_serve.specs.declared.serve_end.ServeEnd.{ServeEnd}
use Rattle.ml_serve.specs.declared.serve_end.ServeEnd.TheVariants.{Done, WriteFault, DoorFault}

-- the line that says how many connections were served
abbrev pub served_line : ℕ → List ℕ
served_line number = codes "served " ++ decimal number ++ codes "\n"

-- these lines are due: so many connections were served, as many as asked for or fewer where the door has run out, and no fault came
pub record AreDone {X : Type 0} (count number : ℕ) (coming_after : Option (List X)) (lines : List (List ℕ)) : Type 0 where
  pub few : number ≤ count
  pub enough : (number ≡ count) ⊎ HasRunOut coming_after
  pub due : lines ≡ codes "ready\n" ∷ served_line number ∷ []

-- these lines are due, by whether the door listens: it failed to, and nothing was served; or it failed after so many connections, which are fewer than asked for
abbrev pub AreOfFault : Bool → ℕ → ℕ → List (List ℕ) → Type 0
AreOfFault false count number lines = (number ≡ 0) × (lines ≡ codes "door fault\n" ∷ [])
AreOfFault true count number lines = (number < count) × (lines ≡ codes "ready\n" ∷ codes "door fault\n" ∷ [])

-- that the door failed was written, or a part of it
abbrev pub IsFaultSaid : Option (List ℕ) → Option (List ℕ) → ServeEnd → Type 0
IsFaultSaid written written_after Done = ⊥
IsFaultSaid written written_after DoorFault = Appends written written_after (codes "door fault\n")
IsFaultSaid written written_after WriteFault = AppendsPart written written_after (codes "door fault\n")

-- the first line alone, before any connection
abbrev pub AreFirst : ℕ → List (List ℕ) → Type 0
AreFirst number lines = (number ≡ 0) × (lines ≡ codes "ready\n" ∷ [])

-- what the door says once serving has ended: whether it listens, the connections to come, and its faults, before and after
pub record DoorSaid (X : Type 0) : Type 0 where
  pub listens : Bool
  pub coming_after : Option (List X)
  pub faults : ℕ
  pub faults_after : ℕ

-- the door listens, and has not failed
abbrev pub IsCalm : {X : Type 0} → DoorSaid X → Type 0
IsCalm door = (door.listens ≡ true) × (door.faults_after ≡ door.faults)

-- the door failed once, so these lines are due
abbrev pub HasFailed : {X : Type 0} → ℕ → ℕ → DoorSaid X → List (List ℕ) → Type 0
HasFailed count number door lines = AreOfFault door.listens count number lines × (door.faults_after ≡ one_more door.faults)

-- how the command may end after so many connections, and what was written then: all lines that are due, or, where the output failed, a part of them
abbrev pub IsEndOfServing : {X : Type 0} → ℕ → ℕ → DoorSaid X → Option (List ℕ) → Option (List ℕ) → ServeEnd → Type 0
IsEndOfServing count number door written written_after Done =
    (lines : List (List ℕ)) × AreDone count number door.coming_after lines × IsCalm door × Appends written written_after (flat_map (λ line. line) lines)
IsEndOfServing count number door written written_after DoorFault =
    (lines : List (List ℕ)) × HasFailed count number door lines × Appends written written_after (flat_map (λ line. line) lines)
IsEndOfServing count number door written written_after WriteFault =
    (lines : List (List ℕ))
    × (((AreDone count number door.coming_after lines ⊎ AreFirst number lines) × IsCalm door) ⊎ HasFailed count number door lines)
    × IsCut written written_after lines

-- the faults of the output after serving that ended so: one more exactly where it failed
abbrev pub prints_after : ServeEnd → ℕ → ℕ
prints_after Done faults = faults
prints_after DoorFault faults = faults
prints_after WriteFault faults = one_more faults

-- no count falls, and the output failed once exactly where that is what serving ended by
pub record HasServeCause (door door_after sink sink_after : ℕ) (status : ServeEnd) : Type 0 where
  pub door_later : door ≤ door_after
  pub sink_later : sink ≤ sink_after
  pub writes : sink_after ≡ prints_after status sink
