use Rattle.std.proofs.Common.{◌≡◌, ◌++◌, drop}
use Rattle.std.specs.List.{flat_map}
use Rattle.ml_watch.specs.Line.{byte_text}
use Rattle.ml_watch.proofs.id.bytes_text.Given as goal

abbrev pub invariant-loop-byte : goal.invariant-loop-byte
invariant-loop-byte l = l.text.items ++ flat_map byte_text (drop l.byte-index l.bytes) ≡ flat_map byte_text l.bytes
