use Rattle.std.proofs.Common.{◌≡◌, ◌++◌, map}
use Rattle.unicode_segmentation.specs.Iter.{graphemes_left}
use Rattle.ml_text.specs.Cluster.{cluster_of, clusters_of}
use Rattle.ml_text.proofs.cluster.cut.Given as goal

abbrev pub invariant-loop-piece : goal.invariant-loop-piece
invariant-loop-piece l = l.all ++ map (cluster_of l.font) (graphemes_left l.piece-iterator) ≡ clusters_of l.font l.text
