use Rattle.ml_repair.proofs.NearRosters.{overlapping_found}
use Rattle.ml_repair.proofs.roster.Roster.overlapping.Goals as goal

pub returns : goal.returns
returns c =
    let i = c.self.inside in
    let came = rw (c.in_ok-places.ensures, c.as_slice.ensures, ← c.self.view_is) at c.in_ok-push_places.ensures in
    rw (← c.self.view_is) (overlapping_found i.come i.at i.gone i.store.now.rows c.args.label.now c.args.band c.args.scale.now c.in_ok-numbers.numbers
    c.push_places.new.out c.push_come.new.out c.self.invariant.1 c.self.invariant.2 c.in_ok-numbers.ensures.whole came c.in_ok-push_come.ensures)
