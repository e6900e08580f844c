use Rattle.std.proofs.Common.{take, Contains}
use Rattle.ml_repair.specs.Repair.{AreSifted}
use Rattle.ml_repair.proofs.gather.sift.Given as goal

abbrev pub invariant-loop-place : goal.invariant-loop-place
invariant-loop-place l = AreSifted l.sought (Contains (take l.place-index l.found)) l.initial.next l.next l.initial.out l.out
