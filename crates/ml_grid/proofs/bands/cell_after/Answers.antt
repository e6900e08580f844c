use lib.Signed.{lt_z}
use Rattle.std.proofs.Common.{◌≡◌, sym, arith, rules, true, false, w32, ℤ, pos, ◌+ℤ◌, ◌≤ℤ◌, FitsSigned, to_z, of_z}
use Rattle.std.proofs.lemmas.Int.{ints, to_z-of_z}
use Rattle.ml_grid.proofs.Places.{place_above, place_beside}
use Rattle.ml_grid.proofs.bands.cell_after.Goals as goal

below : (a b : ℤ) → FitsSigned w32 a → FitsSigned w32 b → lt_z (to_z w32 (of_z w32 a)) (to_z w32 (of_z w32 b)) ≡ true → (a +ℤ pos 1) ≤ℤ b
below a b f g e = let less = simp to_z-of_z at e in omega (arith, ints)

not_below : (a b : ℤ) → FitsSigned w32 a → FitsSigned w32 b → lt_z (to_z w32 (of_z w32 a)) (to_z w32 (of_z w32 b)) ≡ false → b ≤ℤ a
not_below a b f g e = let more = simp to_z-of_z at e in omega (arith, ints)

one_more_fits : (a b : ℤ) → FitsSigned w32 a → FitsSigned w32 b → (a +ℤ pos 1) ≤ℤ b → FitsSigned w32 (a +ℤ pos 1)
one_more_fits a b f g low = omega (arith, ints)

digit_fits : (a : ℤ) → FitsSigned w32 a → a ≤ℤ pos 2097151 → FitsSigned w32 (a +ℤ pos 1)
digit_fits a f low = omega (arith, ints)

pub returns-then-cell-cells : goal.returns-then-cell-cells
returns-then-cell-cells c i is =
    let s = c.args.cells.now in
    let cell = c.args.cell in
    let fx : FitsSigned w32 cell.x = search rules in
    let fy : FitsSigned w32 cell.y = search rules in
    let gy : FitsSigned w32 s.y1 = search rules in
    let low = below cell.y s.y1 fy gy c.if-cell-cells.true in
    let fz = one_more_fits cell.y s.y1 fy gy low in
    simp to_z-of_z (sym (place_above s i cell is c.requires.rows low))

pub returns-else-cell-cells : goal.returns-else-cell-cells
returns-else-cell-cells c i is =
    let s = c.args.cells.now in
    let cell = c.args.cell in
    let fx : FitsSigned w32 cell.x = search rules in
    let fy : FitsSigned w32 cell.y = search rules in
    let gy : FitsSigned w32 s.y1 = search rules in
    let gx : FitsSigned w32 s.y0 = search rules in
    let fz = digit_fits cell.x fx c.requires.column.1 in
    simp to_z-of_z (sym (place_beside s i cell is c.requires.rows (not_below cell.y s.y1 fy gy c.if-cell-cells.false)))
