use Rattle.std.proofs.Common.{arith}
use Rattle.std.proofs.lemmas.Grind.{common_steps}
use Rattle.ml_follow.proofs.Rows.{begun_from}
use Rattle.ml_follow.proofs.head.opened_by.Goals as goal

pub returns-in-len3 : goal.returns-in-len3
returns-in-len3 c = grind (arith, common_steps, begun_from)
