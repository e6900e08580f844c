use Rattle.std.proofs.Common.{◌≡◌, ◌++◌, drop}
use Rattle.std.specs.List.{flat_map}
use Rattle.ml_answer.specs.Svg.{escaped_byte}
use Rattle.ml_answer.proofs.escape.push_escaped.Given as goal

abbrev pub invariant-loop-byte : goal.invariant-loop-byte
invariant-loop-byte l = l.text.items ++ flat_map escaped_byte (drop l.byte-index l.piece) ≡ l.fn.text.items ++ flat_map escaped_byte l.piece
