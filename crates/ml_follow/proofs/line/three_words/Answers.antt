use Rattle.ml_follow.specs.StateText.{end_words}
use Rattle.ml_follow.proofs.line.three_words.Goals as goal

pub returns : goal.returns
unfolding end_words
returns c = c.format.ensures.ok
