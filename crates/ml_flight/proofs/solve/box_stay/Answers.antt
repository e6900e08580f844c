use Rattle.std.proofs.Common.{arith}
use Rattle.std.proofs.lemmas.Int.{to_z-of_z}
use Rattle.ml_flight.specs.Shown.{BoxInWindow}
use Rattle.ml_flight.proofs.solve.box_stay.Goals as goal

pub returns-in-Some : goal.returns-in-Some
unfolding BoxInWindow
returns-in-Some c = grind (arith, to_z-of_z)

pub returns-in-None : goal.returns-in-None
unfolding BoxInWindow
returns-in-None c = grind (arith, to_z-of_z)
