use Rattle.std.proofs.Common.{◌≢◌, ℕ, ◌<◌, get_or}
use Rattle.ml_repair.specs.Moves.{numbers_of}
use Rattle.ml_repair.proofs.moves.find_in.Given as goal

abbrev pub invariant-loop-k : goal.invariant-loop-k
invariant-loop-k l = (j : ℕ) → j < l.k → get_or (numbers_of l.moved) j 0 ≢ l.number
