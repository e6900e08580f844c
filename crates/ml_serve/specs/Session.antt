-- Connections that were served one after another.
use Rattle.std.specs.Prelude.{◌≡◌, ℕ, List, [], ◌∷◌, length, map, Bool, true, false, Result, Ok, Err}
use Rattle.ml_io.specs.declared.link.Link.{Link}
use Rattle.ml_io.specs.Calls.{Passed}
use Rattle.ml_io.specs.Causes.{Appends}
use Rattle.ml_io.specs.Takes.{Takes}
use Rattle.ml_http.specs.declared.connection_end.ConnEnd.{ConnEnd}
use Rattle.ml_http.specs.Connection.{Exchange}
use Rattle.ml_http.specs.Step.{LinkAnswer}

-- one connection: the link as it came, the link as it was given back, what was exchanged, and how it ended
pub record Visit (I O A : Type 0) : Type 0 where
  pub came : Link I O
  pub gone : Link I O
  pub exchange : Exchange A
  pub end : ConnEnd

-- the visits follow one another, each from the state that the one before left
abbrev pub Follow : {S V : Type 0} → (S → V → S → Type 0) → S → List V → S → Type 0
Follow one old [] new = new ≡ old
Follow {S} one old (visit ∷ visits) new = (mid : S) × one old visit mid × Follow one mid visits new

-- so many connections came from the door, in its order, were served, and were given back in that order
pub record HasServed {S I O : Type 0} (one : S → Visit I O LinkAnswer → S → Type 0) (count : ℕ) (door : Passed I O) (old new : S) : Type 0 where
  pub visits : List (Visit I O LinkAnswer)
  pub number : length visits ≡ count
  pub came : Takes door.coming door.coming_after (map (λ v. v.came) visits)
  pub gone : Appends door.done door.done_after (map (λ v. v.gone) visits)
  pub states : Follow one old visits new

-- how many connections were served by one turn
abbrev pub links_in : {E : Type 0} → Result Bool E → ℕ
links_in (Ok true) = 1
links_in (Ok false) = 0
links_in (Err error) = 0
