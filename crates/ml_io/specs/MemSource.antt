-- A source in memory.
use Rattle.std.specs.Prelude.{◌≡◌, ℕ, List, Result, is_ok, if◌then◌else◌}
use Rattle.ml_ratio.specs.Count.{one_more}

-- the bytes that are left, the most that a call gives, the calls that fail, the calls made, the faults
pub record MemSourceState : Type 0 where
  pub left : List ℕ
  pub cut : ℕ
  pub fails : List ℕ
  pub calls : ℕ
  pub faults : ℕ

-- a source of which nothing was taken yet
abbrev pub fresh_source : List ℕ → ℕ → List ℕ → MemSourceState
fresh_source bytes cut fails = record { left = bytes; cut = cut; fails = fails; calls = 0; faults = 0 }

-- what a take does beside the bytes: it counts the call, and a fault exactly where it failed
pub record TakeLeaves {T E : Type 0} (old new : MemSourceState) (result : Result T E) : Type 0 where
  pub cut : new.cut ≡ old.cut
  pub fails : new.fails ≡ old.fails
  pub calls : new.calls ≡ one_more old.calls
  pub faults : new.faults ≡ (if is_ok result then old.faults else one_more old.faults)
