use Rattle.ml_spans.specs.Sound.{depth}
use Rattle.ml_spans.proofs.renewal.+renew_all.Given as goal

abbrev pub decreases-renew_all : goal.decreases-renew_all
decreases-renew_all g l = depth l.tree.now
