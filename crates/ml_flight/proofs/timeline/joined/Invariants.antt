use Rattle.ml_flight.proofs.Joining.{Joining}
use Rattle.ml_flight.proofs.timeline.joined.Given as goal

abbrev pub invariant-loop-piece : goal.invariant-loop-piece
invariant-loop-piece l = Joining l.pieces l.piece-index l.stays l.current
