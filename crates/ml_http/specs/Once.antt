-- Answers, connections and states that are one.
use Rattle.std.specs.Prelude.{◌≡◌, ℕ, List, Some}
use Rattle.ml_io.specs.Calls.{Put, Taken}
use Rattle.ml_watch.specs.Hearing.{Hearing}
use Rattle.ml_editor.specs.State.{IsState, State}
use Rattle.ml_http.specs.Step.{LinkAnswer}
use Rattle.ml_http.specs.Link.{IsLinkServed, LinkState}
use Rattle.ml_http.specs.declared.connection_end.ConnEnd.{ConnEnd}
use Rattle.ml_http.specs.declared.connection_end.ConnEnd.TheVariants.{Shut, Starved, Closed, ReadFault, WriteFault}

-- two answers have one reply, one list of changes and one cost, and leave one state
pub record AreOneAnswer (one other : LinkAnswer) (t u : State) : Type 0 where
  pub reply : one.reply ≡ other.reply
  pub changes : one.changes ≡ other.changes
  pub cost : one.cost ≡ other.cost
  pub state : t ≡ u

-- the connection ended by neither a fault nor a lack of memory
abbrev pub EndsWell : ConnEnd → Type 0
EndsWell Shut = Unit {0}
EndsWell Closed = Unit {0}
EndsWell Starved = ⊥
EndsWell ReadFault = ⊥
EndsWell WriteFault = ⊥

-- two states that connections leave are alike for all that comes: they have one map, and as many steps were spent
pub record AreLikeStates {W : Type 0} (one other : LinkState W) : Type 0 where
  pub map_state : one.map_state ≡ other.map_state
  pub spent : one.spent ≡ other.spent

-- an account of a connection: from where it led to where, what was taken and put, and how it ended
pub record Account (W : Type 0) : Type 0 where
  pub old : LinkState W
  pub new : LinkState W
  pub input : Taken
  pub out : Put
  pub end : ConnEnd

-- two accounts of a connection that brings these bytes, from states that are alike, one of which can be reached; both ended well
pub record AreAccounts {W : Type 0} (hearing : W → Hearing) (bytes : List ℕ) (one other : Account W) : Type 0 where
  pub reached : IsState one.old.map_state
  pub alike : AreLikeStates one.old other.old
  pub brings : one.input.left ≡ Some bytes
  pub brings_too : other.input.left ≡ Some bytes
  pub well : EndsWell one.end
  pub well_too : EndsWell other.end
  pub served : IsLinkServed hearing one.old one.new one.input one.out one.end
  pub served_too : IsLinkServed hearing other.old other.new other.input other.out other.end
