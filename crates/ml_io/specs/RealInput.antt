-- A source over a reader of std.
use Rattle.std.specs.Prelude.{ℕ, ◌==◌, nat_lt, Bool, false, ◌&&◌, List, [], Option, Some, None, Result, Ok, Err, is_ok, if◌then◌else◌}
use Rattle.ml_ratio.specs.Count.{one_more}

-- the reader, the faults, and whether it has said that the input is over
pub record RealInputState (R : Type 0) : Type 0 where
  pub reader : R
  pub faults : ℕ
  pub ended : Bool

-- nothing is told of the bytes that are left, but that there are none once the input is over
abbrev pub told_left : Bool → Option (List ℕ)
told_left ended = if ended then Some [] else None

-- the answer to a buffer of so many bytes says that the input is over
abbrev pub says_end : {E : Type 0} → Result ℕ E → ℕ → Bool
says_end (Ok count) size = (count == 0) && nat_lt 0 size
says_end (Err error) size = false

-- a count of faults after a call: one more exactly where it failed
abbrev pub faults_after_call : {T E : Type 0} → Result T E → ℕ → ℕ
faults_after_call result faults = if is_ok result then faults else one_more faults
