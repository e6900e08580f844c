use Rattle.ml_watch.proofs.Spellings.{visible_id}
use Rattle.ml_watch.proofs.laws.visible_ids.Goals as goal

pub returns : goal.returns
returns c = visible_id
