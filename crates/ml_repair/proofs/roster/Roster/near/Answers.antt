use Rattle.ml_repair.proofs.Answered.{if_ok}
use Rattle.ml_repair.proofs.NearRosters.{near_found}
use Rattle.ml_repair.proofs.roster.Roster.near.Goals as goal

pub returns : goal.returns
returns c =
    let i = c.self.inside in
    let found = rw c.new-numbers.ensures at c.in_ok-near.ensures.ok in
    let came = rw (c.as_slice.ensures, ← c.self.view_is) at c.in_ok-push_places.ensures in
    rw (← c.self.view_is) (if_ok c.push_come.result _ _ (λ _. near_found i.come i.at i.gone i.store.now.rows c.args.label.now c.args.band
    c.near.new.out c.args.out.now c.push_places.new.out c.push_come.new.out c.self.invariant.1 c.self.invariant.2 found came) c.push_come.ensures)
