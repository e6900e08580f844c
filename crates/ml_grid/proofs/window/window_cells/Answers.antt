use Rattle.std.proofs.Common.{rules, subst, FitsSigned, w32, w64, ℤ, ◌≤ℤ◌, ◌↔◌}
use Rattle.std.proofs.lemmas.Int.{to_z-of_z}
use Rattle.ml_ratio.specs.Fraction.{value_of}
use Rattle.ml_cone.specs.Cell.{ColumnInWindow}
use Rattle.ml_grid.proofs.window.window_cells.Goals as goal

pub returns-clause-meets : goal.returns-clause-meets
returns-clause-meets c x y =
    let v = c.args.view.now in
    let k = c.band-band.result in
    let fx : FitsSigned w64 v.cx = search rules in
    let fy : FitsSigned w64 v.cy = search rules in
    let f0 : FitsSigned w32 c.columns_in-x0.result.0 = search rules in
    let f1 : FitsSigned w32 c.columns_in-x0.result.1 = search rules in
    let f2 : FitsSigned w32 c.columns_in-y0.result.0 = search rules in
    let f3 : FitsSigned w32 c.columns_in-y0.result.1 = search rules in
    let p = subst (λ (z : ℤ). ((c.columns_in-x0.result.0 ≤ℤ x) × (x ≤ℤ c.columns_in-x0.result.1)) ↔ ColumnInWindow k x z v.w (value_of v.scale))
    (to_z-of_z w64 v.cx fx) (c.columns_in-x0.ensures.meets x) in
    let q = subst (λ (z : ℤ). ((c.columns_in-y0.result.0 ≤ℤ y) × (y ≤ℤ c.columns_in-y0.result.1)) ↔ ColumnInWindow k y z v.h (value_of v.scale))
    (to_z-of_z w64 v.cy fy) (c.columns_in-y0.ensures.meets y) in
    rw (to_z-of_z w32 c.columns_in-x0.result.0 f0, to_z-of_z w32 c.columns_in-x0.result.1 f1, to_z-of_z w32 c.columns_in-y0.result.0 f2, to_z-of_z w32 c.columns_in-y0.result.1 f3)
    (λ among. (p.0 (among.0, among.1), q.0 (among.2, among.3)), λ cell. (let a = p.1 cell.0 in let b = q.1 cell.1 in (a.0, a.1, b.0, b.1)))
