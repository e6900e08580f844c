use Rattle.std.proofs.Common.{ℕ, arith, ◌∷◌, []}
use Rattle.ml_watch.proofs.Putting.{held_nothing, held_more, held_part, held_all, held_so, each_byte}
use Rattle.ml_watch.proofs.line.put_piece.Goals as goal

pub loop-byte-init : goal.loop-byte-init
loop-byte-init g c = held_nothing _ _ _ tt

pub loop-byte-preserved : goal.loop-byte-preserved
loop-byte-preserved g c = held_more (λ (b : ℕ). b ∷ []) c.args.piece.now c.loop-byte.byte-index _ c.loop-byte-test.true c.loop-byte.invariant (rw c.in-Ok.is at c.put_one.ensures)

pub returns-in-Err : goal.returns-in-Err
returns-in-Err g c = held_so c.args.piece.now (each_byte c.args.piece.now)
    (held_part (λ (b : ℕ). b ∷ []) c.args.piece.now c.loop-byte.byte-index _ c.loop-byte-test.true _ c.loop-byte.invariant c.put_one.ensures (rw c.in-Err.is tt) tt)

pub returns : goal.returns
returns g c = held_so c.args.piece.now (each_byte c.args.piece.now) (held_all (λ (b : ℕ). b ∷ []) c.args.piece.now c.loop-byte.byte-index (omega arith) c.loop-byte.invariant tt)
