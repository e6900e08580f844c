use Rattle.std.proofs.Common.{Ok, take, flat_map}
use Rattle.ml_watch.specs.Puts.{HeldPuts}
use Rattle.ml_watch.proofs.line.put_pieces.Given as goal

abbrev pub invariant-loop-piece : goal.invariant-loop-piece
invariant-loop-piece g l =
    HeldPuts {E = Unit {0}} (g.K.Sink.written l.fn.sink) (g.K.Sink.written l.sink) l.fn.held l.held (g.K.Sink.faults l.fn.sink)
    (g.K.Sink.faults l.sink) (flat_map (λ piece. piece.now) (take l.piece-index l.pieces)) (Ok tt)
