-- The connections of a door in memory.
use Rattle.std.specs.Prelude.{ℕ, List, [], Bool, false, Option, None}
use Rattle.ml_io.specs.declared.link.Link.{Link}

-- the links to come and those done, the port, whether it listens, whether a link is out
pub record LinkListState (I O : Type 0) : Type 0 where
  pub coming : List (Link I O)
  pub served : List (Link I O)
  pub port : Option ℕ
  pub listens : Bool
  pub out : Bool

-- links at whose door nothing was done yet
abbrev pub fresh_links : {I O : Type 0} → List (Link I O) → LinkListState I O
fresh_links links = record { coming = links; served = []; port = None; listens = false; out = false }
