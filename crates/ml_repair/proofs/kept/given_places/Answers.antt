use Rattle.ml_repair.proofs.KeptBlockers.{given_none, given_one}
use Rattle.ml_repair.proofs.kept.given_places.Goals as goal

pub returns-in_ok-push-in-Some : goal.returns-in_ok-push-in-Some
returns-in_ok-push-in-Some c =
    let same = c.in_ok-places.ensures.items_if_clones_equal (λ x y e. e) in
    rw c.in-Some.is (given_one c.args.changed.now c.in_ok-places.places.items c.push.new.self.items c.in-Some.b same c.in_ok-push-in-Some.ensures.items)

pub returns-in-None : goal.returns-in-None
returns-in-None c =
    let same = c.in_ok-places.ensures.items_if_clones_equal (λ x y e. e) in
    rw c.in-None.is (given_none c.args.changed.now c.in_ok-places.places.items same)
