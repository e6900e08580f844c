use Rattle.std.proofs.Common.{arith}
use Rattle.std.proofs.lemmas.List.{take_all}
use Rattle.ml_repair.proofs.Seeing.{among_none, among_more}
use Rattle.ml_repair.proofs.shown.shown_among.Goals as goal

pub loop-number-init : goal.loop-number-init
loop-number-init c = rw c.new-places.ensures (among_none c.args.store.now.rows c.args.view.now)

pub loop-number-preserved : goal.loop-number-preserved
loop-number-preserved c = among_more c.args.store.now.rows c.args.view.now c.args.numbers.now c.loop-number.places c.push_shown.new.places c.loop-number.number-index
    (omega arith) c.loop-number.invariant c.in_ok-push_shown.ensures

pub returns : goal.returns
returns c = rw (take_all c.loop-number.number-index c.args.numbers.now (omega arith)) at c.loop-number.invariant
