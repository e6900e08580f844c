use Rattle.std.proofs.Common.{◌∙◌, rules, arith, FitsSigned, w64, pos, ◌+ℤ◌, ◌-ℤ◌}
use Rattle.std.proofs.lemmas.Int.{ints, to_z-of_z}
use Rattle.ml_grid.proofs.window.last_column.Goals as goal

pub returns : goal.returns
returns c =
    let fm : FitsSigned w64 c.args.middle = c.ranges.middle in
    let fh : FitsSigned w64 c.args.half = c.ranges.half in
    let fs : FitsSigned w64 c.args.side = c.ranges.side in
    let m = c.requires.small_middle in
    let n = c.requires.small_half in
    let f : FitsSigned w64 (c.args.middle +ℤ c.args.half) = omega (arith, ints) in
    let g : FitsSigned w64 ((c.args.middle +ℤ c.args.half) -ℤ pos 1) = omega (arith, ints) in
    let h : FitsSigned w64 c.div_euclid.result = search rules in
    let e = simp to_z-of_z at c.div_euclid.ensures in
    to_z-of_z w64 c.div_euclid.result h ∙ e
