use Rattle.std.proofs.Common.{length}
use Rattle.ml_json.specs.Grammar.{Blank}
use Rattle.ml_json.proofs.plain.skip_space.Given as goal

abbrev pub invariant-loop-bytes : goal.invariant-loop-bytes
invariant-loop-bytes l = Blank l.fn.bytes l.bytes

abbrev pub decreases-loop-bytes : goal.decreases-loop-bytes
decreases-loop-bytes l = length l.bytes
