use Rattle.std.proofs.Common.{◌≡◌}
use Rattle.ml_anchor.specs.Best.{IsFirstGreatest}
use Rattle.ml_anchor.specs.Anchor.{part_area}
use Rattle.ml_anchor.proofs.anchor.largest_part.Given as goal

abbrev pub invariant-loop-i : goal.invariant-loop-i
invariant-loop-i l = IsFirstGreatest (part_area l.parts) l.i l.best × (l.best_area ≡ part_area l.parts l.best)
