use Rattle.std.proofs.Common.{ℕ, Ok, take, flat_map, ◌∷◌, []}
use Rattle.ml_watch.specs.Puts.{HeldPuts}
use Rattle.ml_watch.proofs.line.put_piece.Given as goal

abbrev pub invariant-loop-byte : goal.invariant-loop-byte
invariant-loop-byte g l =
    HeldPuts {E = Unit {0}} (g.K.Sink.written l.fn.sink) (g.K.Sink.written l.sink) l.fn.held l.held (g.K.Sink.faults l.fn.sink)
    (g.K.Sink.faults l.sink) (flat_map (λ (b : ℕ). b ∷ []) (take l.byte-index l.piece)) (Ok tt)
