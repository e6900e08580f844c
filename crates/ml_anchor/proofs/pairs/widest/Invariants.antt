use Rattle.ml_anchor.specs.Best.{IsFirstGreatest}
use Rattle.ml_anchor.specs.Pairs.{pair_gap}
use Rattle.ml_anchor.proofs.pairs.widest.Given as goal

abbrev pub invariant-loop-k : goal.invariant-loop-k
invariant-loop-k l = IsFirstGreatest (pair_gap l.sorted) l.k l.best
