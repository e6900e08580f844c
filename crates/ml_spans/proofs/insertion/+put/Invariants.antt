use Rattle.ml_spans.specs.Sound.{depth}
use Rattle.ml_spans.proofs.insertion.+put.Given as goal

abbrev pub decreases-put : goal.decreases-put
decreases-put g l = depth l.tree.now
