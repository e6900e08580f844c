-- Files of states.
use Rattle.std.specs.Prelude.{◌≡◌, ◌≢◌, ◌⊎◌, ℕ, ◌+◌, ◌-◌, ◌<◌, List, [], ◌∷◌, ◌++◌, length, take, slice_index_or, Option, Some, None, MatchOption, Result, Ok, Err}
use Rattle.ml_ratio.specs.Lines.{parts}
use Rattle.ml_cone.specs.Places.{IsNoId}
use Rattle.ml_cone.specs.Slots.{no_slot}
use Rattle.ml_cone.specs.declared.label.Label.{Label}
use Rattle.ml_cone.specs.declared.slot.Slot.{Slot}
use Rattle.ml_follow.specs.StateLine.{ReadsHead, ReadsRow}
use Rattle.ml_follow.specs.declared.state.State.{State}
use Rattle.ml_follow.specs.declared.fault.StateFault.{StateFault}
use Rattle.ml_follow.specs.declared.fault.StateFault.TheVariants.{BadState, Memory}

-- the lines that end with LF, in order
abbrev pub ended_lines : List ℕ → List (List ℕ)
ended_lines bytes = take (length (parts 10 bytes) - 1) (parts 10 bytes)

-- what stands behind the last LF
abbrev pub unended : List ℕ → List ℕ
unended bytes = slice_index_or (parts 10 bytes) (length (parts 10 bytes) - 1) []

-- the lines write the first of `count` labels with their slots, one each, and the ids differ
pub record WriteRows (rows : List (List ℕ)) (count : ℕ) (labels : List Label) (slots : List Slot) : Type 0 where
  pub one_label : length labels ≡ length rows
  pub one_slot : length slots ≡ length rows
  pub written : (i : ℕ) (d : Label) → i < length rows → ReadsRow (slice_index_or rows i []) i count (slice_index_or labels i d) (slice_index_or slots i no_slot)
  pub differ : (i j : ℕ) (d : Label) → i < j → j < length labels → (slice_index_or labels i d).order.id ≢ (slice_index_or labels j d).order.id

-- the lines are the first line of a state with `count` labels, and those of its labels so far
pub record Begin (lines : List (List ℕ)) (count : ℕ) (state : State) : Type 0 where
  pub head : List ℕ
  pub rows : List (List ℕ)
  pub lines_are : lines ≡ head ∷ rows
  pub its_head : ReadsHead head state.rev count
  pub its_rows : WriteRows rows count state.labels state.slots

-- the lines write the state, from its first line to that of its last label
abbrev pub WriteState : List (List ℕ) → State → Type 0
WriteState lines state = Begin lines (length state.labels) state

-- the lines write the states, one behind the other
abbrev pub WriteStates : List (List ℕ) → List State → Type 0
WriteStates lines [] = lines ≡ []
WriteStates lines (state ∷ states) =
    (front : List (List ℕ)) × (rest : List (List ℕ)) × (lines ≡ front ++ rest) × WriteState front state × WriteStates rest states

-- the file writes the states, and its last line ends with LF
pub record AreStates (bytes : List ℕ) (states : List State) : Type 0 where
  pub ended : unended bytes ≡ []
  pub written : WriteStates (ended_lines bytes) states

-- a state that wants more lines: how many labels it is to have, and what stands so far
pub record Unfinished : Type 0 where
  pub count : ℕ
  pub state : State

-- the lines write states, and then the beginning of one that wants more lines, if there is one
pub record WriteUpTo (lines : List (List ℕ)) (states : List State) (last : Option Unfinished) : Type 0 where
  pub front : List (List ℕ)
  pub back : List (List ℕ)
  pub lines_are : lines ≡ front ++ back
  pub whole : WriteStates front states
  pub begun : MatchOption last (back ≡ []) (λ o. Begin back o.count o.state × (length o.state.labels < o.count))

-- the line is that of the next label of a state that wants it, whose id is new
pub record IsNextRow (line : List ℕ) (o : Unfinished) (label : Label) (slot : Slot) : Type 0 where
  pub row : ReadsRow line (length o.state.labels) o.count label slot
  pub new : IsNoId o.state.labels label.order.id

-- the line is none that is due: no first line of a state, or not that of the next label
abbrev pub IsFaulty : List ℕ → Option Unfinished → Type 0
IsFaulty line None = (rev count : ℕ) → ¬ (ReadsHead line rev count)
IsFaulty line (Some o) = (label : Label) (slot : Slot) → ¬ (IsNextRow line o label slot)

-- line k, counted from 1, is the first at fault: those before it are as they should be
pub record IsFaultyLine (bytes : List ℕ) (k : ℕ) : Type 0 where
  pub place : ℕ
  pub number : k ≡ place + 1
  pub is_there : place < length (ended_lines bytes)
  pub states : List State
  pub last : Option Unfinished
  pub before : WriteUpTo (take place (ended_lines bytes)) states last
  pub faulty : IsFaulty (slice_index_or (ended_lines bytes) place []) last

-- all lines are as they should be, but a state wants more, or the last lacks its LF; k is one more than the number of those that have it
pub record IsCutShort (bytes : List ℕ) (k : ℕ) : Type 0 where
  pub number : k ≡ length (ended_lines bytes) + 1
  pub states : List State
  pub last : Option Unfinished
  pub before : WriteUpTo (ended_lines bytes) states last
  pub cut : (unended bytes ≢ []) ⊎ (last ≢ None)

-- what each refusal says of the file; out of memory says nothing
abbrev pub IsStatesFault : List ℕ → StateFault → Type 0
IsStatesFault bytes (BadState k) = IsFaultyLine bytes k ⊎ IsCutShort bytes k
IsStatesFault bytes Memory = Unit {0}

-- these states are read, or memory is wanting
abbrev pub GivesStates : Result (List State) StateFault → List State → Type 0
GivesStates result states = (result ≡ Ok states) ⊎ (result ≡ Err Memory)
