use Rattle.std.proofs.Common.{◌≡◌, map, take}
use Rattle.ml_label.proofs.placing.pieces_of.Given as goal

abbrev pub invariant-loop-cluster : goal.invariant-loop-cluster
invariant-loop-cluster l = l.pieces ≡ map (λ c. c.text) (take l.cluster-index l.clusters)
