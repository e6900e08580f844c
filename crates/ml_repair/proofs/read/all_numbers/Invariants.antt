use Rattle.std.proofs.Common.{◌≡◌, take}
use Rattle.ml_store.specs.Rows.{numbers_in}
use Rattle.ml_repair.proofs.read.all_numbers.Given as goal

abbrev pub invariant-loop-place : goal.invariant-loop-place
invariant-loop-place l = l.numbers ≡ take l.place (numbers_in l.store.rows)
