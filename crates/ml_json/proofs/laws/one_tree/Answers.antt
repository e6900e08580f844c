use Rattle.ml_json.proofs.ValueRuns.{one_tree}
use Rattle.ml_json.proofs.laws.one_tree.Goals as goal

pub returns : goal.returns
returns c = one_tree
