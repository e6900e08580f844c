-- A connection to which an editor, a crowd, tiles and a counter of steps are lent.
use Rattle.std.specs.Prelude.{◌≡◌, ℕ, ◌+◌, Bool, List, [], flat_map, sum_by, Contains}
use Rattle.ml_io.specs.Calls.{Put, Taken}
use Rattle.ml_watch.specs.Hearing.{Hearing, AllHear}
use Rattle.ml_editor.specs.State.{State}
use Rattle.ml_editor.specs.Editing.{Editing}
use Rattle.ml_editor.specs.declared.edit.Edit.{Edit}
use Rattle.ml_request.specs.declared.request.Event.{Event}
use Rattle.ml_http.specs.declared.connection_end.ConnEnd.{ConnEnd}
use Rattle.ml_http.specs.declared.connection_end.ConnEnd.TheVariants.{Shut, Starved, Closed, ReadFault, WriteFault}
use Rattle.ml_http.specs.Step.{LinkAnswer, IsCarriedOut, IsTileText, MapStep}
use Rattle.ml_http.specs.Connection.{IsServed, Machine, position}
use Rattle.ml_http.specs.TileWork.{IsDoneTo}
use Rattle.ml_tile.specs.Cache.{Cache, HeldTile}

-- all that answering changes: the map, the watchers, the tiles held, the steps spent
pub record LinkState (W : Type 0) : Type 0 where
  pub map_state : State
  pub crowd : List W
  pub tiles : Cache
  pub spent : ℕ

-- what is lent to a connection
abbrev pub lent : {W : Type 0} → Editing → List W → Cache → ℕ → LinkState W
lent editor crowd tiles spent = record { map_state = editor.state; crowd = crowd; tiles = tiles; spent = spent }

-- each body that is held is that of its tile of this map
abbrev pub AreTexts : State → List HeldTile → Type 0
AreTexts s tiles = (tile : HeldTile) → Contains tiles tile → IsTileText s tile.0 tile.1

-- the same of all that is lent
abbrev pub HoldsTexts : {W : Type 0} → LinkState W → Type 0
HoldsTexts s = AreTexts s.map_state s.tiles.tiles

-- a rule that leads the map from one state to another was followed with this answer: the watchers were told its changes, the tiles became what it is for them, and its steps were spent
pub record Follows {W : Type 0} (hearing : W → Hearing) (rule : State → LinkAnswer → State → Type 0) (old : LinkState W) (answer : LinkAnswer) (new : LinkState W) : Type 0 where
  pub by_rule : rule old.map_state answer new.map_state
  pub hears : AllHear hearing answer.changes old.crowd new.crowd
  pub done : IsDoneTo answer.work answer.changes old.tiles new.tiles
  pub spent : new.spent ≡ old.spent + answer.cost

-- how many requests a connection may have
abbrev pub most_requests : ℕ
most_requests = 1000

-- one event is answered by the machine
abbrev pub LinkStep : {W : Type 0} → (W → Hearing) → LinkState W → Event → LinkAnswer → LinkState W → Type 0
LinkStep hearing old event answer new = Follows hearing (λ s a t. MapStep s event a t) old answer new

-- a rule was followed with this reply
abbrev pub IsAnswered : {W : Type 0} → (W → Hearing) → (State → LinkAnswer → State → Type 0) → LinkState W → LinkState W → List ℕ → Type 0
IsAnswered hearing rule old new reply = (answer : LinkAnswer) × Follows hearing rule old answer new × (answer.reply ≡ reply)

-- memory was wanting: steps may have been spent for nothing, and nothing else has changed
pub record LinkIdles {W : Type 0} (old new : LinkState W) : Type 0 where
  pub map_state : new.map_state ≡ old.map_state
  pub crowd : new.crowd ≡ old.crowd
  pub tiles : new.tiles ≡ old.tiles

-- an edit was carried out with this reply, at this cost, for which the steps were spent before; its changes were told, and the tiles became what it is for them
pub record IsAccepted {W : Type 0} (hearing : W → Hearing) (closes : Bool) (edit : Edit) (cost : ℕ) (old new : LinkState W) (reply : List ℕ) : Type 0 where
  pub answer : LinkAnswer
  pub carried : IsCarriedOut old.map_state closes edit answer new.map_state
  pub hears : AllHear hearing answer.changes old.crowd new.crowd
  pub done : IsDoneTo answer.work answer.changes old.tiles new.tiles
  pub costs : answer.cost ≡ cost
  pub spent : new.spent ≡ old.spent
  pub is : answer.reply ≡ reply

-- the steps are those of the answers; where memory was wanting or the sink failed, nothing is said of them
abbrev pub IsSpent : ConnEnd → ℕ → ℕ → List LinkAnswer → Type 0
IsSpent Closed old new answers = new ≡ old + sum_by (λ a. a.cost) answers
IsSpent Shut old new answers = new ≡ old + sum_by (λ a. a.cost) answers
IsSpent ReadFault old new answers = new ≡ old + sum_by (λ a. a.cost) answers
IsSpent Starved old new answers = Unit {0}
IsSpent WriteFault old new answers = Unit {0}

-- what answers the events of a connection: the machine, over all that is lent
abbrev pub link_machine : {W : Type 0} → (W → Hearing) → Machine (LinkState W) LinkAnswer
link_machine hearing = record { step = LinkStep hearing; idle = LinkIdles; text = λ answer. answer.reply }

-- the connection was served so; the watchers were told the changes of all its answers in order, and their steps were spent
pub record IsLinkServed {W : Type 0} (hearing : W → Hearing) (old new : LinkState W) (input : Taken) (out : Put) (end : ConnEnd) : Type 0 where
  pub served : IsServed (link_machine hearing) (position most_requests [] old) new input out end
  pub hears : AllHear hearing (flat_map (λ a. a.changes) served.exchange.answers) old.crowd new.crowd
  pub spent : IsSpent end old.spent new.spent served.exchange.answers
