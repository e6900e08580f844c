use Rattle.ml_spans.specs.Sound.{depth}
use Rattle.ml_spans.proofs.search.+has_wanted.Given as goal

abbrev pub decreases-has_wanted : goal.decreases-has_wanted
decreases-has_wanted g l = depth l.tree.now
