use Rattle.std.proofs.Common.{ℕ, ◌<◌, ◌≤◌, get_or}
use Rattle.ml_cone.specs.declared.label.Label.{Label}
use Rattle.ml_conflict.specs.Reach.{Reaches}
use Rattle.ml_conflict.proofs.far.greatest_reach.Given as goal

abbrev pub invariant-loop-i : goal.invariant-loop-i
invariant-loop-i l = (l.reach ≤ 576) × ((k : ℕ) (d : Label) → k < l.i → Reaches l.axis (get_or l.labels k d) l.reach)
