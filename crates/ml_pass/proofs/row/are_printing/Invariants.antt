use Rattle.std.proofs.Common.{take, ◌≤◌}
use Rattle.std.specs.Prelude.{All}
use Rattle.ml_pass.proofs.row.are_printing.Given as goal

abbrev pub invariant-loop-byte : goal.invariant-loop-byte
invariant-loop-byte l = All (λ byte. (33 ≤ byte) × (byte ≤ 126)) (take l.byte-index l.bytes)
