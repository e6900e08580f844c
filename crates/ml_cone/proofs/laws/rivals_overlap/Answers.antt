use Rattle.ml_cone.proofs.Meetings.{rivals_overlap}
use Rattle.ml_cone.proofs.laws.rivals_overlap.Goals as goal

pub returns : goal.returns
returns c = rivals_overlap
