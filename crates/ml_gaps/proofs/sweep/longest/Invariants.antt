use Rattle.ml_gaps.proofs.Swept.{Swept}
use Rattle.ml_gaps.proofs.sweep.longest.Given as goal

abbrev pub invariant-loop-piece : goal.invariant-loop-piece
invariant-loop-piece l = Swept l.label l.pieces l.piece-index l.reach l.best
