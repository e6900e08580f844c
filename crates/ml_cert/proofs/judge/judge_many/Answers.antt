use Rattle.std.proofs.Common.{◌≤◌, length, take, refl, arith}
use Rattle.std.proofs.lemmas.List.{length-replicate}
use Rattle.ml_conflict.specs.declared.spot.Spot.{Spot}
use Rattle.ml_cert.proofs.Arranging.{arranged_good, arranged_each}
use Rattle.ml_cert.proofs.judge.judge_many.Goals as goal

pub judge_in_strips-requires-clause-good : goal.judge_in_strips-requires-clause-good
judge_in_strips-requires-clause-good c =
    let spots = c.list_active-count.new.spots in
    let n = c.list_active-count.result in
    let long = c.list_active-count.auto.spots in
    let within = c.list_active-count.ensures.within in
    let few = c.requires.few in
    let fits : n ≤ length spots = omega (arith, length-replicate {A = Spot}) in
    arranged_good c.args.labels.now c.args.slots.now spots (take n spots) c.arrange.new.spots n fits refl c.list_active-count.ensures.listed c.arrange.ensures

pub judge_in_strips-requires-clause-each : goal.judge_in_strips-requires-clause-each
judge_in_strips-requires-clause-each c =
    let spots = c.list_active-count.new.spots in
    let n = c.list_active-count.result in
    let long = c.list_active-count.auto.spots in
    let within = c.list_active-count.ensures.within in
    let few = c.requires.few in
    let fits : n ≤ length spots = omega (arith, length-replicate {A = Spot}) in
    arranged_each c.args.labels.now c.args.slots.now spots (take n spots) c.arrange.new.spots n fits refl c.list_active-count.ensures.listed c.arrange.ensures
