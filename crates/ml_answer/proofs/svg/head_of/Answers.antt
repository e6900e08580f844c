use Rattle.ml_answer.specs.Svg.{head_line}
use Rattle.ml_answer.proofs.svg.head_of.Goals as goal

pub returns : goal.returns
unfolding head_line
returns c = c.format.ensures.ok
