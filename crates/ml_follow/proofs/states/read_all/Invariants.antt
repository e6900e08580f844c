use Rattle.std.proofs.Common.{length}
use Rattle.ml_follow.proofs.Files.{FileSoFar}
use Rattle.ml_follow.proofs.states.read_all.Given as goal

abbrev pub invariant-loop-line : goal.invariant-loop-line
invariant-loop-line l = FileSoFar l.bytes l.rest l.number l.states l.last

abbrev pub decreases-loop-line : goal.decreases-loop-line
decreases-loop-line l = length l.rest
