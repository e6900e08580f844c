-- How connections are served over a map that was loaded.
use Rattle.std.specs.Prelude.{◌≡◌, List, length, Some}
use Rattle.ml_io.specs.Calls.{Put, Taken, Passed, LinkEnds}
use Rattle.ml_watch.specs.Hearing.{Hearing}
use Rattle.ml_editor.specs.State.{State}
use Rattle.ml_http.specs.Connection.{HasEndCause}
use Rattle.ml_http.specs.Link.{LinkState, IsLinkServed}
use Rattle.ml_http.specs.Step.{LinkAnswer}
use Rattle.ml_http.specs.declared.connection_end.ConnEnd.{ConnEnd}
use Rattle.ml_http.specs.declared.connection_end.ConnEnd.TheVariants as ends
use Rattle.ml_command.specs.Loading.{no_tiles}
use Rattle.ml_serve.specs.Headline.{Headline}
use Rattle.ml_serve.specs.Printed.{IsEndOfServing, HasServeCause}
use Rattle.ml_serve.specs.Session.{Visit}
use Rattle.ml_serve.specs.declared.hours.Hours.{Hours}
use Rattle.ml_serve.specs.declared.serve_end.ServeEnd.{ServeEnd}
use Rattle.ml_serve.specs.declared.serve_end.ServeEnd.TheVariants as serving
use Rattle.maplabel.specs.declared.status.Status.{Status}
use Rattle.maplabel.specs.declared.status.Status.TheVariants.{Done, ReadFault, WriteFault, DoorFault, Memory}

-- what a run is lent to before its first request: the map, the watchers, no tile held, and no step spent
abbrev pub at_first : {W : Type 0} → State → List W → LinkState W
at_first state crowd = record { map_state = state; crowd = crowd; tiles = no_tiles; spent = 0 }

-- the status of a run by how its one connection ended
abbrev pub status_of_link : ConnEnd → Status
status_of_link ends.Shut = Done
status_of_link ends.Starved = Memory
status_of_link ends.Closed = Done
status_of_link ends.ReadFault = ReadFault
status_of_link ends.WriteFault = WriteFault

-- the status of a run by how serving ended
abbrev pub status_of_serving : ServeEnd → Status
status_of_serving serving.Done = Done
status_of_serving serving.WriteFault = WriteFault
status_of_serving serving.DoorFault = DoorFault

-- who was told what changed: what a watcher heard, and the watchers before and after
pub record Watched (W : Type 0) : Type 0 where
  pub hearing : W → Hearing
  pub crowd : List W
  pub crowd_after : List W

abbrev pub watched : {W : Type 0} → (W → Hearing) → List W → List W → Watched W
watched hearing crowd crowd_after = record { hearing = hearing; crowd = crowd; crowd_after = crowd_after }

-- one connection was served from this state: the defined replies to what the input brought were put out, and the
-- watchers were told; input and output failed once exactly where that is what it ended by
pub record IsPiped {W : Type 0} (watchers : Watched W) (first : State) (input : Taken) (out : Put) (status : Status) : Type 0 where
  pub last : LinkState W
  pub end : ConnEnd
  pub served : IsLinkServed watchers.hearing (at_first first watchers.crowd) last input out end
  pub cause : HasEndCause input out end
  pub crowd_is : last.crowd ≡ watchers.crowd_after
  pub status_is : status ≡ status_of_link end

-- connections were served one after another from this state at the port of these hours, as the headline says; a door that does not
-- listen is never said to be ready, and door and output failed once exactly where that is what it ended by
pub record IsAllServed {W I O : Type 0} (watchers : Watched W) (ends : LinkEnds I O) (first : State) (hours : Hours) (door : Passed I O) (out : Put) (status : Status) : Type 0 where
  pub last : LinkState W
  pub visits : List (Visit I O LinkAnswer)
  pub end : ServeEnd
  pub headline : Headline watchers.hearing ends (at_first first watchers.crowd) last door visits
  pub printed : IsEndOfServing hours.count (length visits)
      (record { listens = door.listens; coming_after = door.coming_after; faults = door.faults; faults_after = door.faults_after }) out.written out.written_after end
  pub cause : HasServeCause door.faults door.faults_after out.faults out.faults_after end
  pub at_port : door.port ≡ Some hours.port
  pub crowd_is : last.crowd ≡ watchers.crowd_after
  pub status_is : status ≡ status_of_serving end
