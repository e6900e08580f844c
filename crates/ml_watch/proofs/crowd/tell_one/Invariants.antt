use Rattle.std.proofs.Common.{◌≡◌, ◌<◌, [], take}
use Rattle.ml_watch.specs.Hearing.{Grew}
use Rattle.ml_watch.proofs.crowd.tell_one.Given as goal

abbrev pub invariant-loop-change : goal.invariant-loop-change
invariant-loop-change g l = record {
  grew : Grew (g.W.Watcher.hearing l.fn.watcher) (g.W.Watcher.hearing l.watcher) (take l.change-index l.changes) [];
  same : (g.W.Watcher.hearing l.watcher).faults ≡ (g.W.Watcher.hearing l.fn.watcher).faults;
  silent : 0 < (g.W.Watcher.hearing l.fn.watcher).faults → l.watcher ≡ l.fn.watcher;
}
