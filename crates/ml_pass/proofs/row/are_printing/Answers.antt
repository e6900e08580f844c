use Rattle.std.proofs.Common.{arith, refl, ◌≤◌}
use Rattle.std.proofs.lemmas.List.Elements.{All-more}
use Rattle.std.proofs.lemmas.List.{take_all}
use Rattle.ml_pass.proofs.row.are_printing.Goals as goal

pub loop-byte-preserved : goal.loop-byte-preserved
loop-byte-preserved c = All-more (λ byte. (33 ≤ byte) × (byte ≤ 126)) c.args.bytes.now c.loop-byte.byte-index 0 (omega arith) c.loop-byte.invariant (omega arith, omega arith)

pub returns : goal.returns
returns c = (λ _. rw (take_all c.loop-byte.byte-index c.args.bytes.now (omega arith)) at c.loop-byte.invariant, λ _. refl)
