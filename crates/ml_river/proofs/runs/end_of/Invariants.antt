use Rattle.std.proofs.Common.{◌<◌, ◌-◌, length}
use Rattle.ml_river.specs.Run.{Goes, step}
use Rattle.ml_river.proofs.runs.end_of.Given as goal

abbrev pub invariant-loop-end : goal.invariant-loop-end
invariant-loop-end l = (l.from < l.end) × (l.end < length l.line) × Goes l.line (step l.line l.from) l.from l.end

abbrev pub decreases-loop-end : goal.decreases-loop-end
decreases-loop-end l = length l.line - l.end
