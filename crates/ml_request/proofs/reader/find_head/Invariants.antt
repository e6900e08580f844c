use Rattle.std.proofs.Common.{◌≡◌, ℕ, ◌≤◌, ◌<◌, ◌-◌, length}
use Rattle.ml_request.specs.Held.{Gains}
use Rattle.ml_request.specs.Stream.{IsMarkAt}
use Rattle.ml_request.proofs.reader.find_head.Given as goal

abbrev pub invariant-search : goal.invariant-search
invariant-search g l = record {
  gains : Gains (g.S.Source.left l.fn.source) (g.S.Source.left l.source) l.fn.held l.held;
  within : l.searched ≤ length l.held;
  before : (k : ℕ) → k < l.searched → ¬ (IsMarkAt l.held k);
  same : g.S.Source.faults l.source ≡ g.S.Source.faults l.fn.source;
}

abbrev pub decreases-search : goal.decreases-search
decreases-search g l = 16384 - length l.held
