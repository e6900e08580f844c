use Rattle.ml_river.proofs.LoopLemmas.{IsChainBefore}
use Rattle.ml_river.proofs.chain.chain.Given as goal

abbrev pub invariant-loop-k : goal.invariant-loop-k
invariant-loop-k l = IsChainBefore l.class l.run l.anchor.x l.anchor.y l.advances l.k l.before l.boxes
