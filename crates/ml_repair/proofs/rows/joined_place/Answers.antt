use Rattle.ml_repair.specs.Roster.{left_rows}
use Rattle.ml_repair.proofs.Rosters.{joined_found}
use Rattle.ml_repair.proofs.rows.joined_place.Goals as goal

pub returns-else-row-number : goal.returns-else-row-number
returns-else-row-number c =
    let le = rw c.in-Some.is at c.requires.at in
    rw c.in-Some.is (joined_found c.in-Some.row.now c.args.at (left_rows c.args.gone c.args.store.now.rows) c.args.number
    c.left_place-left.result c.place_with.result le c.if-row-number.false c.left_place-left.ensures c.place_with.ensures)
