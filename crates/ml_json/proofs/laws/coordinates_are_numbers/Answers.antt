use Rattle.std.proofs.Common.{◌<◌, ◌^◌, unsigned_abs}
use Rattle.std.proofs.lemmas.Int.{ints}
use Rattle.std.proofs.Common.{arith}
use Rattle.ml_json.proofs.FixedLemmas.{text_number}
use Rattle.ml_json.proofs.laws.coordinates_are_numbers.Goals as goal

pub returns : goal.returns
returns c v world = let small : unsigned_abs v < 2 ^ 64 = grind (arith, ints) in text_number v small
