use Rattle.std.proofs.Common.{◌≡◌, ◌++◌, length}
use Rattle.ml_watch.specs.Spelling.{bytes_spelled}
use Rattle.ml_watch.proofs.id.all_spelled_by.Given as goal

abbrev pub invariant-loop-byte : goal.invariant-loop-byte
invariant-loop-byte l = l.bytes.items ++ bytes_spelled l.rest ≡ bytes_spelled l.text

abbrev pub decreases-loop-byte : goal.decreases-loop-byte
decreases-loop-byte l = length l.rest
