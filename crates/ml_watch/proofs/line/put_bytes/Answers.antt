use Rattle.std.proofs.Common.{arith}
use Rattle.ml_watch.specs.Line.{byte_text}
use Rattle.ml_watch.proofs.Putting.{held_nothing, held_more, held_part, held_all}
use Rattle.ml_watch.proofs.line.put_bytes.Goals as goal

pub loop-byte-init : goal.loop-byte-init
loop-byte-init g c = held_nothing _ _ _ tt

pub loop-byte-preserved : goal.loop-byte-preserved
loop-byte-preserved g c = held_more byte_text c.args.bytes.now c.loop-byte.byte-index _ c.loop-byte-test.true c.loop-byte.invariant (rw c.in-Ok.is at c.put_byte.ensures)

pub returns-in-Err : goal.returns-in-Err
returns-in-Err g c = held_part byte_text c.args.bytes.now c.loop-byte.byte-index _ c.loop-byte-test.true _ c.loop-byte.invariant c.put_byte.ensures (rw c.in-Err.is tt) tt

pub returns : goal.returns
returns g c = held_all byte_text c.args.bytes.now c.loop-byte.byte-index (omega arith) c.loop-byte.invariant tt
