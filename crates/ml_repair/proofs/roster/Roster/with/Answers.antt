use Rattle.ml_store.proofs.lemmas.Numbered.{numbered_inserted}
use Rattle.ml_repair.specs.Roster.{left_rows}
use Rattle.ml_repair.proofs.NearRosters.{numbered_left}
use Rattle.ml_repair.proofs.roster.Roster.with.Goals as goal

pub invariant_of-result : goal.invariant_of-result
invariant_of-result c =
    let left = numbered_left c.args.gone c.args.store.now.rows c.requires.gone c.len-many.ensures.numbered in
    (numbered_inserted (left_rows c.args.gone c.args.store.now.rows) c.args.at c.args.come.now left c.requires.at c.requires.few c.requires.fresh c.requires.low, c.requires.gone, c.requires.at)

pub returns-clause-numbered : goal.returns-clause-numbered
returns-clause-numbered c =
    let left = numbered_left c.args.gone c.args.store.now.rows c.requires.gone c.len-many.ensures.numbered in
    numbered_inserted (left_rows c.args.gone c.args.store.now.rows) c.args.at c.args.come.now left c.requires.at c.requires.few c.requires.fresh c.requires.low
