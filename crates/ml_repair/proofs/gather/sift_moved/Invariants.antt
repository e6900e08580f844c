use Rattle.ml_repair.specs.Repair.{AreSifted}
use Rattle.ml_repair.proofs.Gathering.{AmongMoved}
use Rattle.ml_repair.proofs.gather.sift_moved.Given as goal

abbrev pub invariant-loop-moved : goal.invariant-loop-moved
invariant-loop-moved l = AreSifted l.sought (AmongMoved l.sought.roster.now l.sought.moves.now l.moved-index) l.initial.next l.next l.initial.out l.out
