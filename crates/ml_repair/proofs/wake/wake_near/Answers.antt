use Rattle.ml_repair.proofs.Waking.{woken_suspects}
use Rattle.ml_repair.proofs.wake.wake_near.Goals as goal

pub returns-clause-woken : goal.returns-clause-woken
returns-clause-woken c =
    woken_suspects c.args.roster.now c.args.i c.row-row.result.now.label c.in_ok-places.places c.args.waiting.now
    c.wake_among.new.waiting c.row-row.ensures.label c.in_ok-places.ensures (rw c.as_slice.ensures at c.wake_among.ensures.woken)
