use Rattle.std.proofs.Common.{arith}
use Rattle.std.proofs.lemmas.List.{take_all}
use Rattle.ml_repair.proofs.Gathering.{sifted_none, sifted_more}
use Rattle.ml_repair.proofs.gather.sift.Goals as goal

pub loop-place-init : goal.loop-place-init
loop-place-init c = sifted_none c.args.sought.now c.args.found.now c.args.bound c.args.out.now

pub loop-place-preserved : goal.loop-place-preserved
loop-place-preserved c =
    sifted_more c.args.sought.now c.args.found.now c.args.out.now c.loop-place.out c.sift_one.new.out c.args.bound
    c.loop-place.next c.in_ok-next.next c.loop-place.place-index (omega arith) c.loop-place.invariant c.in_ok-next.ensures

pub returns : goal.returns
returns c = rw (take_all c.loop-place.place-index c.args.found.now (omega arith)) at c.loop-place.invariant
