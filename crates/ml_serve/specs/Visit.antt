-- One connection that a door gave.
use Rattle.std.specs.Prelude.{◌≡◌}
use Rattle.ml_io.specs.Calls.{LinkEnds, Put, Taken, put, taken}
use Rattle.ml_watch.specs.Hearing.{Hearing}
use Rattle.ml_http.specs.Connection.{HasEndCause}
use Rattle.ml_http.specs.Link.{LinkState, IsLinkServed}
use Rattle.ml_http.specs.Step.{LinkAnswer}
use Rattle.ml_serve.specs.Session.{Visit}

-- what a visit took from the source of its link, and what it put to the sink
abbrev pub taken_in : {I O : Type 0} → LinkEnds I O → Visit I O LinkAnswer → Taken
taken_in ends visit = taken ends.left ends.reads visit.came.source visit.gone.source

abbrev pub put_in : {I O : Type 0} → LinkEnds I O → Visit I O LinkAnswer → Put
put_in ends visit = put ends.written ends.writes visit.came.sink visit.gone.sink

-- the connection got the defined replies to the bytes that it brought, and its sink then holds them
pub record IsVisit {W I O : Type 0} (hearing : W → Hearing) (ends : LinkEnds I O) (old : LinkState W) (visit : Visit I O LinkAnswer) (new : LinkState W) : Type 0 where
  pub served : IsLinkServed hearing old new (taken_in ends visit) (put_in ends visit) visit.end
  pub exchange : visit.exchange ≡ served.served.exchange
  pub cause : HasEndCause (taken_in ends visit) (put_in ends visit) visit.end
