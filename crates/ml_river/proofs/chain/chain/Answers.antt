use Rattle.std.proofs.Common.{get_or, refl}
use Rattle.ml_river.proofs.LoopLemmas.{one_more}
use Rattle.ml_river.proofs.chain.chain.Goals as goal

pub loop-k-preserved : goal.loop-k-preserved
loop-k-preserved c =
    one_more c.args.class c.args.run.now c.args.anchor.x c.args.anchor.y c.args.advances.now c.loop-k.k c.loop-k.before (get_or c.args.advances.now c.loop-k.k 0)
    c.loop-k.boxes c.push.new.self c.in-Some.cluster c.loop-k-test.true refl c.loop-k.invariant c.in-Some.ensures c.in_ok-push-in-Some.ensures.ok
