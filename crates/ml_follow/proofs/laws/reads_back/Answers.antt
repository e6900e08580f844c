use Rattle.ml_follow.proofs.ReadsBack.{text_reads_back}
use Rattle.ml_follow.proofs.laws.reads_back.Goals as goal

pub returns : goal.returns
returns c = text_reads_back c.visible_ids.ensures
