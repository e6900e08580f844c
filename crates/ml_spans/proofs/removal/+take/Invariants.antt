use Rattle.ml_spans.specs.Sound.{depth}
use Rattle.ml_spans.proofs.removal.+take.Given as goal

abbrev pub decreases-take : goal.decreases-take
decreases-take g l = depth l.tree
