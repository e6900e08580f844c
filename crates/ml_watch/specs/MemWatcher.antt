-- A watcher in memory.
use Rattle.std.specs.Prelude.{◌≡◌, ℕ, ◌<◌, ◌≤◌, List, [], length, Contains, Result, is_ok, if◌then◌else◌}
use Rattle.ml_ratio.specs.Count.{one_more}
use Rattle.ml_watch.specs.declared.change.Change.{Change}

-- the changes kept, the room for all of them, the calls that fail, the calls made, the changes heard, the faults
pub record MemWatcherState : Type 0 where
  pub kept : List Change
  pub room : ℕ
  pub fails : List ℕ
  pub calls : ℕ
  pub heard : ℕ
  pub faults : ℕ

-- a watcher that was told nothing yet
abbrev pub silent_watcher : ℕ → List ℕ → MemWatcherState
silent_watcher room fails = record { kept = []; room = room; fails = fails; calls = 0; heard = 0; faults = 0 }

-- a change is kept: the call is not one that fails, the id has at most 64 bytes, and there is room
pub record Accepts (state : MemWatcherState) (change : Change) : Type 0 where
  pub calm : ¬ (Contains state.fails state.calls)
  pub short : length change.id ≤ 64
  pub room : length state.kept < state.room

-- what a call does beside the list: it counts the call, and the change as heard or the fault
pub record TellLeaves {E : Type 0} (old new : MemWatcherState) (result : Result (Unit {0}) E) : Type 0 where
  pub room : new.room ≡ old.room
  pub fails : new.fails ≡ old.fails
  pub calls : new.calls ≡ one_more old.calls
  pub heard : new.heard ≡ (if is_ok result then one_more old.heard else old.heard)
  pub faults : new.faults ≡ (if is_ok result then old.faults else one_more old.faults)
