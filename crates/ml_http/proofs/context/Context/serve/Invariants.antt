use Rattle.std.proofs.Common.{◌≡◌, ℕ, ◌<◌, []}
use Rattle.ml_io.specs.Calls.{put, taken}
use Rattle.ml_http.specs.declared.connection_end.ConnEnd.{ConnEnd}
use Rattle.ml_http.specs.Connection.{IsServed, position}
use Rattle.ml_http.specs.Context.{IsSameLoan, state_of}
use Rattle.ml_http.specs.Link.{HoldsTexts, LinkState, link_machine, most_requests}
use Rattle.ml_http.proofs.context.Context.serve.Given as goal

abbrev pub invariant-requests : goal.invariant-requests
invariant-requests g l = record {
  some : 0 < l.left;
  loan : IsSameLoan l.fn.self l.self;
  texts : HoldsTexts (state_of l.self);
  reads : g.S.Source.faults l.source ≡ g.S.Source.faults l.fn.source;
  writes : g.K.Sink.faults l.sink ≡ g.K.Sink.faults l.fn.sink;
  whatever_follows : (new : LinkState g.row.W.Denot) (source : g.row.S.Denot) (sink : g.row.K.Denot) (end : ConnEnd) →
      IsServed (link_machine g.W.Watcher.hearing) (position l.left l.held (state_of l.self)) new
      (taken g.S.Source.left g.S.Source.faults l.source source) (put g.K.Sink.written g.K.Sink.faults l.sink sink) end →
      IsServed (link_machine g.W.Watcher.hearing) (position most_requests [] (state_of l.fn.self)) new
      (taken g.S.Source.left g.S.Source.faults l.fn.source source) (put g.K.Sink.written g.K.Sink.faults l.fn.sink sink) end;
}

abbrev pub decreases-requests : goal.decreases-requests
decreases-requests g l = l.left
