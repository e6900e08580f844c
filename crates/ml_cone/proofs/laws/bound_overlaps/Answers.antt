use Rattle.ml_cone.proofs.Meetings.{bound_overlaps}
use Rattle.ml_cone.proofs.laws.bound_overlaps.Goals as goal

pub returns : goal.returns
returns c = bound_overlaps
