use Rattle.std.proofs.Common.{◌≡◌, ◌<◌, ◌^◌, sum}
use Rattle.ml_tests_geo.proofs.river.advances_of.Given as goal

abbrev pub invariant-loop-word : goal.invariant-loop-word
invariant-loop-word g l = (l.total ≡ sum l.all.items) × (l.total < 2 ^ 33)
