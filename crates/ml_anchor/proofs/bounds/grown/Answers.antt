use Rattle.std.proofs.Common.{rules, w64, FitsSigned}
use Rattle.std.proofs.lemmas.Int.{to_z-of_z}
use Rattle.ml_anchor.proofs.bounds.grown.Goals as goal

pub returns-clause-west : goal.returns-clause-west
returns-clause-west c =
    let f : FitsSigned w64 c.min.result = search rules in
    let a : FitsSigned w64 c.args.bounds.west = search rules in
    let b : FitsSigned w64 c.args.place.x = search rules in
    simp to_z-of_z (simp to_z-of_z at c.min.ensures.value)

pub returns-clause-east : goal.returns-clause-east
returns-clause-east c =
    let f : FitsSigned w64 c.max.result = search rules in
    let a : FitsSigned w64 c.args.bounds.east = search rules in
    let b : FitsSigned w64 c.args.place.x = search rules in
    simp to_z-of_z (simp to_z-of_z at c.max.ensures.value)

pub returns-clause-south : goal.returns-clause-south
returns-clause-south c =
    let f : FitsSigned w64 c.min-2.result = search rules in
    let a : FitsSigned w64 c.args.bounds.south = search rules in
    let b : FitsSigned w64 c.args.place.y = search rules in
    simp to_z-of_z (simp to_z-of_z at c.min-2.ensures.value)

pub returns-clause-north : goal.returns-clause-north
returns-clause-north c =
    let f : FitsSigned w64 c.max-2.result = search rules in
    let a : FitsSigned w64 c.args.bounds.north = search rules in
    let b : FitsSigned w64 c.args.place.y = search rules in
    simp to_z-of_z (simp to_z-of_z at c.max-2.ensures.value)
