use Rattle.ml_command.proofs.ZoomLemmas.{AreFirstStays}
use Rattle.ml_command.proofs.zoom.timelines.Given as goal

abbrev pub invariant-loop-i : goal.invariant-loop-i
invariant-loop-i l = AreFirstStays l.labels l.slots l.window l.i l.all
