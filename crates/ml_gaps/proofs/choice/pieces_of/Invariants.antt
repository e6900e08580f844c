use Rattle.std.proofs.Common.{◌↔◌}
use Rattle.ml_gaps.specs.Piece.{HaveScale}
use Rattle.ml_gaps.proofs.Strips.{IsBlockedAmong}
use Rattle.ml_ratio.specs.Fraction.{Fraction}
use Rattle.ml_gaps.proofs.choice.pieces_of.Given as goal

abbrev pub invariant-loop-k : goal.invariant-loop-k
invariant-loop-k l = (s : Fraction) → HaveScale l.pieces s ↔ IsBlockedAmong l.label l.before.labels.now l.before.gaps.now l.before.places.now l.k s
