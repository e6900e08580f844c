use Rattle.ml_repair.proofs.NearRosters.{numbered_left}
use Rattle.ml_repair.proofs.roster.Roster.left.Goals as goal

pub invariant_of-result : goal.invariant_of-result
invariant_of-result c = (numbered_left c.args.gone c.args.store.now.rows c.requires c.len-many.ensures.numbered, c.requires, tt)

pub returns-clause-numbered : goal.returns-clause-numbered
returns-clause-numbered c = numbered_left c.args.gone c.args.store.now.rows c.requires c.len-many.ensures.numbered
