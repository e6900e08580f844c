use Rattle.ml_repair.proofs.Gathering.{next_lasts}
use Rattle.ml_repair.proofs.gather.next_scale.Goals as goal

pub returns : goal.returns
returns c u above = next_lasts c.args.whole c.just_above.result u c.just_above.ensures above
