use Rattle.std.proofs.Common.{length}
use Rattle.ml_json.specs.Leaps.{Begins}
use Rattle.ml_json.specs.State.{part_of}
use Rattle.ml_json.proofs.LeapLemmas.{Front}
use Rattle.ml_json.proofs.plain.plain_number.Given as goal

abbrev pub invariant-loop-rest : goal.invariant-loop-rest
invariant-loop-rest l = Front (λ text. Begins text (part_of l.part)) l.bytes l.rest

abbrev pub decreases-loop-rest : goal.decreases-loop-rest
decreases-loop-rest l = length l.rest
