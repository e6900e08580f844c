use Rattle.std.proofs.Common.{length}
use Rattle.std.specs.Prelude.{All}
use Rattle.ml_follow.specs.Reading.{IsGood}
use Rattle.ml_tests_live.proofs.follow.offers_told.Given as goal

abbrev pub invariant-loop-state : goal.invariant-loop-state
invariant-loop-state g l = All IsGood l.rest.items

abbrev pub decreases-loop-state : goal.decreases-loop-state
decreases-loop-state g l = length l.rest.items
