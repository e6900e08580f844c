use Rattle.std.proofs.Common.{length}
use Rattle.std.specs.Prelude.{All}
use Rattle.ml_json.specs.Leaps.{IsPlain}
use Rattle.ml_json.proofs.LeapLemmas.{Front}
use Rattle.ml_json.proofs.plain.split_plain.Given as goal

abbrev pub invariant-loop-rest : goal.invariant-loop-rest
invariant-loop-rest l = Front (All IsPlain) l.bytes l.rest

abbrev pub decreases-loop-rest : goal.decreases-loop-rest
decreases-loop-rest l = length l.rest
