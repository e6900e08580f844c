use Rattle.std.specs.Prelude.{All}
use Rattle.ml_flight.specs.Stay.{AreApart}
use Rattle.ml_tests.proofs.flight.timelines.Given as goal

abbrev pub invariant-loop-label : goal.invariant-loop-label
invariant-loop-label g l = All AreApart l.all
