use Rattle.std.proofs.Common.{◌≡◌, ◌++◌, ℕ, List, drop}
use Rattle.ml_json.specs.Canonical.{bytes_on}
use Rattle.ml_json.proofs.writer.are_raw.Given as goal

-- where the rest stands for itself, all of it does
abbrev pub invariant-loop-byte : goal.invariant-loop-byte
invariant-loop-byte l = (r : List ℕ) → bytes_on (drop l.byte-index l.bytes) r ≡ drop l.byte-index l.bytes ++ r → bytes_on l.bytes r ≡ l.bytes ++ r
