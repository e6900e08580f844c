use Rattle.std.proofs.Common.{arith}
use Rattle.ml_gaps.proofs.Swept.{swept_none, swept_more, swept_all, outcome}
use Rattle.ml_gaps.proofs.sweep.longest.Goals as goal

pub loop-piece-init : goal.loop-piece-init
loop-piece-init c = swept_none c.args.label.now c.args.pieces.now c.min-reach.result _ c.min-reach.ensures c.min.ensures c.min-2.ensures

pub or_longer-best-requires : goal.or_longer-best-requires
or_longer-best-requires c = c.loop-piece.invariant.clear.is_gap.order

pub loop-piece-preserved : goal.loop-piece-preserved
loop-piece-preserved c =
    swept_more c.args.label.now c.args.pieces.now c.loop-piece.piece-index c.loop-piece.reach c.loop-piece.best c.loop-piece.invariant c.piece-item.result c.piece-item.is (omega arith)
    c.requires.order c.requires.within c.or_longer-best.result
    (outcome c.loop-piece.best c.loop-piece.reach c.piece-item.result.from c.or_longer-best.result c.or_longer-best.ensures.longer c.or_longer-best.ensures.kept)
    c.larger-reach.result c.larger-reach.ensures

pub or_longer-requires : goal.or_longer-requires
or_longer-requires c = c.loop-piece.invariant.clear.is_gap.order

pub returns : goal.returns
returns c =
    swept_all c.args.label.now c.args.pieces.now c.loop-piece.piece-index c.loop-piece.reach c.loop-piece.best c.loop-piece.invariant (omega arith) c.or_longer.result
    (rw (← c.max.ensures) (outcome c.loop-piece.best c.loop-piece.reach c.max.result c.or_longer.result c.or_longer.ensures.longer c.or_longer.ensures.kept))
