-- A door in memory of which listed calls fail.
use Rattle.std.specs.Prelude.{◌≡◌, ℕ, List, Result, is_ok, if◌then◌else◌}
use Rattle.ml_ratio.specs.Count.{one_more}
use Rattle.ml_io.specs.LinkList.{LinkListState, fresh_links}
use Rattle.ml_io.specs.declared.link.Link.{Link}

-- its links, the calls of `next` that fail, the calls made, the faults
pub record MemDoorState (I O : Type 0) : Type 0 where
  pub links : LinkListState I O
  pub fails : List ℕ
  pub calls : ℕ
  pub faults : ℕ

-- a door at which nothing was done yet
abbrev pub fresh_door : {I O : Type 0} → List (Link I O) → List ℕ → MemDoorState I O
fresh_door links fails = record { links = fresh_links links; fails = fails; calls = 0; faults = 0 }

-- what a call of `next` does beside the links: it counts the call, and a fault exactly where it failed
pub record NextLeaves {I O T E : Type 0} (old new : MemDoorState I O) (result : Result T E) : Type 0 where
  pub fails : new.fails ≡ old.fails
  pub calls : new.calls ≡ one_more old.calls
  pub faults : new.faults ≡ (if is_ok result then old.faults else one_more old.faults)
