use Rattle.ml_repair.proofs.NearRosters.{across_found}
use Rattle.ml_repair.proofs.roster.Roster.across.Goals as goal

pub returns-clause-met : goal.returns-clause-met
returns-clause-met c =
    let i = c.self.inside in
    let came = rw (c.as_slice.ensures, ← c.self.view_is) at c.in_ok-push_places.ensures in
    rw (← c.self.view_is) (across_found i.come i.at i.gone i.store.now.rows c.args.label.now c.args.band _ c.in_ok-numbers.numbers c.args.out.now
    c.push_places.new.out c.push_come.new.out c.self.invariant.1 c.self.invariant.2 c.in_ok-numbers.ensures.whole came c.in_ok-push_come.ensures)
