use Rattle.std.proofs.Common.{sym, rules, w32, FitsSigned}
use Rattle.std.proofs.lemmas.Int.{to_z-of_z}
use Rattle.ml_grid.proofs.Places.{first_place}
use Rattle.ml_grid.proofs.bands.first_cell.Goals as goal

pub returns : goal.returns
returns c =
    let s = c.args.cells.now in
    let fx : FitsSigned w32 s.x0 = search rules in
    let fy : FitsSigned w32 s.y0 = search rules in
    simp to_z-of_z (sym (first_place s))
