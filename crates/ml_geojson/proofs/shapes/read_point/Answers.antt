use Rattle.std.proofs.Common.{◌<◌, length, arith}
use Rattle.std.proofs.lemmas.Bool.Decides.{nat_tests}
use Rattle.ml_geojson.proofs.RingLemmas.{no_point}
use Rattle.ml_geojson.proofs.shapes.read_point.Goals as goal

pub returns-in-Err-clause-shape : goal.returns-in-Err-clause-shape
returns-in-Err-clause-shape c =
    let some : 0 < length c.args.items.now = grind (arith, nat_tests) in
    no_point c.args.k c.args.items.now c.in-Err.fault some c.in-Err.ensures
