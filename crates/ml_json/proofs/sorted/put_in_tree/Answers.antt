use Rattle.std.proofs.Common.{◌∙◌, ap}
use Rattle.ml_json.specs.Sorted.{entries_view}
use Rattle.ml_json.proofs.PutLemmas.{entries_put}
use Rattle.ml_json.proofs.sorted.put_in_tree.Goals as goal

pub returns : goal.returns
returns c = ap entries_view c.in_ok-_replaced.ensures.entries ∙ entries_put c.args.tree.now.entries c.args.key c.args.value
