-- A number goes on by ASCII bytes.
use Rattle.std.proofs.Common.{◌≡◌, ℕ, ◌<◌, Some, arith}
use Rattle.std.proofs.lemmas.Bool.Decides.{nat_tests}
use Rattle.ml_json.specs.Machine as m
use Rattle.ml_json.specs.Machine.{Part, go_on}

-- a byte by which a number goes on is below 128
pub go_on_ascii : (part q : Part) (b : ℕ) → go_on part b ≡ Some q → b < 128
go_on_ascii m.minus q b h = grind (arith, nat_tests)
go_on_ascii m.nought q b h = grind (arith, nat_tests)
go_on_ascii m.whole q b h = grind (arith, nat_tests)
go_on_ascii m.dot q b h = grind (arith, nat_tests)
go_on_ascii m.digits q b h = grind (arith, nat_tests)
go_on_ascii m.letter q b h = grind (arith, nat_tests)
go_on_ascii m.sign q b h = grind (arith, nat_tests)
go_on_ascii m.power q b h = grind (arith, nat_tests)
