use Rattle.std.proofs.Common.{◌-◌}
use Rattle.ml_gaps.proofs.index.StripIndex.home.Given as goal

abbrev pub decreases-loop-node : goal.decreases-loop-node
decreases-loop-node l = l.self.inner - l.node
