use Rattle.std.proofs.Common.{◌≡◌, take, map}
use Rattle.ml_store.specs.Rows.{number_at}
use Rattle.ml_repair.proofs.read.numbers_of.Given as goal

abbrev pub invariant-loop-place : goal.invariant-loop-place
invariant-loop-place l = l.numbers ≡ map (number_at l.store.rows) (take l.place-index l.places)
