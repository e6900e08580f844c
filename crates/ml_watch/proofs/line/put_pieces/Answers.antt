use Rattle.std.proofs.Common.{arith}
use Rattle.ml_watch.proofs.Putting.{held_nothing, held_more, held_part, held_all}
use Rattle.ml_watch.proofs.line.put_pieces.Goals as goal

pub loop-piece-init : goal.loop-piece-init
loop-piece-init g c = held_nothing _ _ _ tt

pub loop-piece-preserved : goal.loop-piece-preserved
loop-piece-preserved g c = held_more (λ piece. piece.now) c.args.pieces.now c.loop-piece.piece-index _ c.loop-piece-test.true c.loop-piece.invariant (rw c.in-Ok.is at c.put_text.ensures)

pub returns-in-Err : goal.returns-in-Err
returns-in-Err g c = held_part (λ piece. piece.now) c.args.pieces.now c.loop-piece.piece-index _ c.loop-piece-test.true _ c.loop-piece.invariant c.put_text.ensures (rw c.in-Err.is tt) tt

pub returns : goal.returns
returns g c = held_all (λ piece. piece.now) c.args.pieces.now c.loop-piece.piece-index (omega arith) c.loop-piece.invariant tt
