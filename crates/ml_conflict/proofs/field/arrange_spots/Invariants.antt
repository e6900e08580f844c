use Rattle.ml_conflict.proofs.Spots.{AreWritten}
use Rattle.ml_conflict.proofs.field.arrange_spots.Given as goal

abbrev pub invariant-loop-i : goal.invariant-loop-i
invariant-loop-i l = AreWritten l.labels l.i l.spots
