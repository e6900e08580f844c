use Rattle.std.proofs.Common.{◌≡◌, ◌++◌, ℕ, List, drop}
use Rattle.ml_json.specs.Canonical.{bytes_on}
use Rattle.ml_json.proofs.writer.put_bytes.Given as goal

abbrev pub invariant-loop-byte : goal.invariant-loop-byte
invariant-loop-byte l = (r : List ℕ) → l.out.items ++ bytes_on (drop l.byte-index l.bytes) r ≡ l.fn.out.items ++ bytes_on l.bytes r
