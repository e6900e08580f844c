use Rattle.std.proofs.Common.{ℕ, ◌<◌, ◌≤◌, get_or}
use Rattle.ml_cone.specs.Overlap.{widened}
use Rattle.ml_cone.specs.declared.label.BoxPx.{BoxPx}
use Rattle.ml_conflict.specs.Reach.{IsWithin}
use Rattle.ml_conflict.proofs.far.reach_of.Given as goal

abbrev pub invariant-loop-p : goal.invariant-loop-p
invariant-loop-p l = (l.reach ≤ 576) × ((k : ℕ) (d : BoxPx) → k < l.p-index → IsWithin l.axis l.reach (widened l.label (get_or l.label.boxes k d)))
