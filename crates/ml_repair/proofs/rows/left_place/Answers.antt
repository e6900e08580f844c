use Rattle.ml_repair.proofs.Rosters.{left_fresh, left_found}
use Rattle.ml_repair.proofs.rows.left_place.Goals as goal

pub returns-in-Some : goal.returns-in-Some
returns-in-Some c = left_found c.args.gone c.args.store.now.rows c.args.number c.in-Some.at c.place_without.result
    c.requires.gone c.in-Some.ensures.numbered.differ c.in-Some.ensures.place c.place_without.ensures

pub returns-in-None : goal.returns-in-None
returns-in-None c = left_fresh c.args.gone c.args.store.now.rows c.args.number c.requires.gone c.in-None.ensures.place
