-- Whatever bytes the connections bring, each gets the defined replies to its requests in the order served: every edit is
-- accepted or refused by the written rules, and every view lists exactly those labels of the present features whose active
-- range holds the scale and whose boxes meet the window, these ranges being the lexicographically longest conflict-free
-- choice in priority order.
--
-- What one request gets is `MapStep` (`ml_http: Step`): an edit is answered as `IsEditReply` says there, and a view as
-- `IsViewReply`, whose `AreRowsOf` has the labels of the present features with their longest choice, and whose
-- `AreShownRows` has exactly those that are shown. What one connection gets is `IsLinkServed` (`ml_http: Link`).
use Rattle.std.specs.Prelude.{List, flat_map, map}
use Rattle.ml_io.specs.Calls.{Passed, LinkEnds}
use Rattle.ml_io.specs.Causes.{Appends}
use Rattle.ml_io.specs.Takes.{Takes}
use Rattle.ml_watch.specs.declared.change.Change.{Change}
use Rattle.ml_watch.specs.Hearing.{Hearing, AllHear}
use Rattle.ml_http.specs.Link.{LinkState}
use Rattle.ml_http.specs.Step.{LinkAnswer}
use Rattle.ml_serve.specs.Session.{Visit, Follow}
use Rattle.ml_serve.specs.Visit.{IsVisit}

-- the changes of all accepted edits of a connection, in order
abbrev pub changes_in : {I O : Type 0} → Visit I O LinkAnswer → List Change
changes_in visit = flat_map (λ a. a.changes) visit.exchange.answers

-- the sentence at the top of this file, part by part, of the connections that were served
pub record Headline {W I O : Type 0} (hearing : W → Hearing) (ends : LinkEnds I O) (first last : LinkState W) (door : Passed I O) (visits : List (Visit I O LinkAnswer)) : Type 0 where
  -- whatever bytes the connections bring: they are those that the door gave, in its order; nothing is asked of their bytes
  pub came : Takes door.coming door.coming_after (map (λ v. v.came) visits)
  -- each is given back, in that order, with what its sink then holds
  pub gone : Appends door.done door.done_after (map (λ v. v.gone) visits)
  -- each gets the defined replies to its requests, in the order served: from the state that the one before left
  pub replies : Follow (IsVisit hearing ends) first visits last
  -- the watchers were told the changes of all accepted edits, in order
  pub hears : AllHear hearing (flat_map changes_in visits) first.crowd last.crowd
