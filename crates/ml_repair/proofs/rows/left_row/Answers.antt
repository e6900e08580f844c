use Rattle.std.proofs.Common.{◌∙◌, arith}
use Rattle.ml_repair.proofs.Rosters.{left_above, left_length}
use Rattle.ml_repair.proofs.rows.left_row.Goals as goal

pub row-requires-else-at-g : goal.row-requires-else-at-g
row-requires-else-at-g c =
    let in' = rw c.in-Some.is at c.requires.gone in
    let n = left_length c.args.gone c.in-Some.g c.args.store.now.rows c.in-Some.is in' in
    let w = c.requires.within in
    omega arith

pub returns-else-at-g : goal.returns-else-at-g
returns-else-at-g c d =
    let in' = rw c.in-Some.is at c.requires.gone in
    left_above c.args.gone c.in-Some.g c.args.store.now.rows c.args.at d c.in-Some.is in' c.if-at-g.false ∙ c.row-else-at-g.ensures.row d
