use Rattle.std.proofs.Common.{arith}
use Rattle.ml_repair.proofs.NearRosters.{places_more, places_all}
use Rattle.ml_repair.proofs.roster.push_places.Goals as goal

pub loop-number-preserved : goal.loop-number-preserved
loop-number-preserved c = places_more c.args.roster.now c.args.numbers.now c.args.out.now c.loop-number.out c.push_place.new.out c.loop-number.number-index
    (omega arith) c.loop-number.invariant c.in_ok-push_place.ensures

pub returns : goal.returns
returns c = places_all c.args.roster.now c.args.numbers.now c.args.out.now c.loop-number.out c.loop-number.number-index (omega arith) c.loop-number.invariant
