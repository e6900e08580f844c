use Rattle.ml_text.proofs.ClusterLaws.{clusters_reach}
use Rattle.ml_text.proofs.laws.clusters_reach.Goals as goal

pub returns : goal.returns
returns c = clusters_reach
