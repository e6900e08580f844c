-- The replies that the bytes of a connection are owed, and what a connection got of them.
use Rattle.std.specs.Prelude.{◌≡◌, ℕ, ◌⊎◌, List, [], ◌∷◌, ◌++◌, map, flat_map, Option}
use Rattle.ml_io.specs.Causes.{Appends, IsCut}
use Rattle.ml_request.specs.Stream.{AreEvents}
use Rattle.ml_request.specs.declared.request.Event.{Event}
use Rattle.ml_editor.specs.State.{State}
use Rattle.ml_http.specs.Connection.{memory_reply}
use Rattle.ml_http.specs.Link.{most_requests}
use Rattle.ml_http.specs.Run.{Run}
use Rattle.ml_http.specs.Step.{LinkAnswer, MapStep}
use Rattle.ml_http.specs.declared.connection_end.ConnEnd.{ConnEnd}
use Rattle.ml_http.specs.declared.connection_end.ConnEnd.TheVariants.{Shut, Starved, Closed, ReadFault, WriteFault}

-- these are the replies that the bytes are owed by a map in this state: those of the machine to all events of the bytes, in order
pub record AreReplies (s : State) (bytes : List ℕ) (texts : List (List ℕ)) : Type 0 where
  pub events : List Event
  pub answers : List LinkAnswer
  pub last : State
  pub all : AreEvents most_requests bytes events
  pub run : Run MapStep s events answers last
  pub are : texts ≡ map (λ (a : LinkAnswer). a.reply) answers

-- the texts begin with the front
pub record BeginWith (texts front : List (List ℕ)) : Type 0 where
  pub rest : List (List ℕ)
  pub are : texts ≡ front ++ rest

-- what a connection that ended so has put out, of these texts that it was owed: all of them, where it ended well; else the first of them,
-- whole where the source failed, followed by the reply that memory is wanting where it is, and cut where the sink failed
abbrev pub IsBeginning : ConnEnd → Option (List ℕ) → Option (List ℕ) → List (List ℕ) → Type 0
IsBeginning Closed written written_after texts = Appends written written_after (flat_map (λ (text : List ℕ). text) texts)
IsBeginning Shut written written_after texts = Appends written written_after (flat_map (λ (text : List ℕ). text) texts)
IsBeginning ReadFault written written_after texts =
    (front : List (List ℕ)) × BeginWith texts front × Appends written written_after (flat_map (λ (text : List ℕ). text) front)
IsBeginning Starved written written_after texts =
    (front : List (List ℕ)) × BeginWith texts front × Appends written written_after (flat_map (λ (text : List ℕ). text) front ++ memory_reply)
IsBeginning WriteFault written written_after texts =
    (front : List (List ℕ)) × BeginWith texts front × (IsCut written written_after front ⊎ IsCut written written_after (front ++ memory_reply ∷ []))
