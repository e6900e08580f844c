use Rattle.ml_conflict.proofs.RivalLemmas.{rivals_of_block}
use Rattle.ml_conflict.proofs.block.are_rivals.Goals as goal

pub returns : goal.returns
returns c =
    rw c.is_some.ensures (rivals_of_block c.args.low.now c.args.high.now c.first_block.result (rw c.max.ensures at c.first_block.ensures.some) (rw c.max.ensures at c.first_block.ensures.none))
