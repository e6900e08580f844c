use Rattle.std.proofs.Common.{◌≡◌, length}
use Rattle.ml_watch.specs.Puts.{Grows, with_held}
use Rattle.ml_watch.proofs.line.give.Given as goal

abbrev pub invariant-loop-sink : goal.invariant-loop-sink
invariant-loop-sink g l = record {
  same : with_held (g.K.Sink.written l.sink) l.held ≡ with_held (g.K.Sink.written l.fn.sink) l.fn.held;
  grows : Grows (g.K.Sink.written l.fn.sink) (g.K.Sink.written l.sink);
  calm : g.K.Sink.faults l.sink ≡ g.K.Sink.faults l.fn.sink;
}

abbrev pub decreases-loop-sink : goal.decreases-loop-sink
decreases-loop-sink g l = length l.held
