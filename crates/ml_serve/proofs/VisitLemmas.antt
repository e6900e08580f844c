-- A connection that was served is a visit; what the watchers heard over many.
use Rattle.std.proofs.Common.{◌≡◌, List, [], ◌∷◌, ◌++◌, flat_map, refl, ap}
use Rattle.ml_io.specs.Calls.{LinkEnds, Passed, put, taken}
use Rattle.ml_io.specs.declared.link.Link.{Link}
use Rattle.ml_io.specs.Causes.{Appends}
use Rattle.ml_io.specs.Takes.{Takes}
use Rattle.ml_watch.specs.Hearing.{Hearing, AllHear}
use Rattle.ml_http.specs.declared.connection_end.ConnEnd.{ConnEnd}
use Rattle.ml_http.specs.Connection.{HasEndCause}
use Rattle.ml_http.specs.Link.{LinkState, IsLinkServed}
use Rattle.ml_http.specs.Step.{LinkAnswer}
use Rattle.ml_serve.specs.Session.{Visit, Follow, HasServed}
use Rattle.ml_serve.specs.Visit.{IsVisit}
use Rattle.ml_serve.specs.Headline.{changes_in}
use Rattle.ml_serve.proofs.Called.{NothingHeard, HeardTwice}
use Rattle.ml_serve.proofs.SessionLemmas.{served_one}

-- a connection that came, was served and was given back is one that was served
pub served_link : {W I O : Type 0} (hearing : W → Hearing) (ends : LinkEnds I O) (old new : LinkState W) (came gone : Link I O) (end : ConnEnd) (door : Passed I O) →
    Takes door.coming door.coming_after (came ∷ []) → Appends door.done door.done_after (gone ∷ []) →
    IsLinkServed hearing old new (taken ends.left ends.reads came.source gone.source) (put ends.written ends.writes came.sink gone.sink) end →
    HasEndCause (taken ends.left ends.reads came.source gone.source) (put ends.written ends.writes came.sink gone.sink) end →
    HasServed (IsVisit hearing ends) 1 door old new
served_link hearing ends old new came gone end door comes goes served cause =
    served_one (IsVisit hearing ends) (record { came = came; gone = gone; exchange = served.served.exchange; end = end }) door old new comes goes
    (record { served = served; exchange = refl; cause = cause })

-- what the watchers heard over connections that followed one another
pub hears_follow : {W I O : Type 0} (hearing : W → Hearing) → NothingHeard hearing → HeardTwice hearing → (ends : LinkEnds I O) (old new : LinkState W) (visits : List (Visit I O LinkAnswer)) →
    Follow (IsVisit hearing ends) old visits new → AllHear hearing (flat_map changes_in visits) old.crowd new.crowd
hears_follow hearing none twice ends old new [] follow = rw (ap (λ s. s.crowd) follow) (none old.crowd)
hears_follow hearing none twice ends old new (visit ∷ visits) follow =
    twice (changes_in visit) (flat_map changes_in visits) old.crowd follow.0.crowd new.crowd
    (rw follow.1.exchange follow.1.served.hears)
    (hears_follow hearing none twice ends follow.0 new visits follow.2)
