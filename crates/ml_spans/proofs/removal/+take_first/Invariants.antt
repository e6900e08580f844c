use Rattle.ml_spans.specs.Sound.{depth_of}
use Rattle.ml_spans.proofs.removal.+take_first.Given as goal

abbrev pub decreases-take_first : goal.decreases-take_first
decreases-take_first g l = depth_of l.top.value
