use Rattle.ml_gaps.specs.Gaps.{IsShownGap}
use Rattle.ml_gaps.proofs.Finding.{FoundBelow}
use Rattle.ml_gaps.proofs.filter.shown_gaps.Given as goal

abbrev pub invariant-loop-i : goal.invariant-loop-i
invariant-loop-i l = FoundBelow (IsShownGap l.labels l.gaps l.view) l.i l.places
