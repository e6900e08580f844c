use Rattle.ml_river.proofs.HeightLemmas.{IsPast}
use Rattle.ml_river.proofs.height.height_on_run.Given as goal

abbrev pub invariant-loop-k : goal.invariant-loop-k
invariant-loop-k l = IsPast l.run l.fn.x l.k
