use Rattle.std.proofs.Common.{◌≡◌, ℕ, arith, rules, refl, w32, w64, ℤ, FitsSigned, to_z, of_z, ap, ◌∙◌}
use Rattle.std.proofs.lemmas.Int.{ints, to_z-of_z}
use Rattle.ml_cone.specs.Plane.{IsReach}
use Rattle.ml_cone.specs.Cells.{cell_at}
use Rattle.ml_cone.specs.Hull.{reach_of, hull_of, IsStretch}
use Rattle.ml_cone.specs.declared.label.BoxPx.{BoxPx}
use Rattle.ml_cone.proofs.Hulls.{reach_extent, few_columns}
use Rattle.ml_cone.proofs.reach.hull_within.Goals as goal

-- both ends of a stretch are in reach
reaches : (l r : ℤ) → IsStretch l r → IsReach l × IsReach r
reaches l r h = let a = h.from in let b = h.left in let d = h.right in let e = h.until in ((omega (arith, ints), omega (arith, ints)), (omega (arith, ints), omega (arith, ints)))

-- a number of a box, from its bits, is that of the reach
back : (u v : ℤ) → FitsSigned w32 u → u ≡ v → IsReach v → IsReach (to_z w32 (of_z w32 u))
back u v f e h = simp to_z-of_z (rw e h)

-- a column, from its bits
column_back : (x u v r : ℤ) (k : ℕ) → FitsSigned w64 x → FitsSigned w32 u → FitsSigned w32 r →
    r ≡ cell_at (to_z w64 (of_z w64 x)) (to_z w32 (of_z w32 u)) k → u ≡ v → to_z w32 (of_z w32 r) ≡ cell_at x v k
column_back x u v r k fx fu fr e d = let h = simp to_z-of_z at e in to_z-of_z w32 r fr ∙ h ∙ ap (λ (t : ℤ). cell_at x t k) d

pub column-requires-clause-u_in_reach : goal.column-requires-clause-u_in_reach
column-requires-clause-u_in_reach c =
    back c.args.reach.now.l (reach_of c.args.label.now).l (search rules) (ap (λ (p : BoxPx). p.l) c.requires.reach) (reaches _ _ (reach_extent c.args.label.now).wide).0

pub column-requires-2-clause-u_in_reach : goal.column-requires-2-clause-u_in_reach
column-requires-2-clause-u_in_reach c =
    back c.args.reach.now.b (reach_of c.args.label.now).b (search rules) (ap (λ (p : BoxPx). p.b) c.requires.reach) (reaches _ _ (reach_extent c.args.label.now).high).0

pub column-requires-3-clause-u_in_reach : goal.column-requires-3-clause-u_in_reach
column-requires-3-clause-u_in_reach c =
    back c.args.reach.now.r (reach_of c.args.label.now).r (search rules) (ap (λ (p : BoxPx). p.r) c.requires.reach) (reaches _ _ (reach_extent c.args.label.now).wide).1

pub column-requires-4-clause-u_in_reach : goal.column-requires-4-clause-u_in_reach
column-requires-4-clause-u_in_reach c =
    back c.args.reach.now.t (reach_of c.args.label.now).t (search rules) (ap (λ (p : BoxPx). p.t) c.requires.reach) (reaches _ _ (reach_extent c.args.label.now).high).1

pub returns-clause-hull : goal.returns-clause-hull
unfolding hull_of
returns-clause-hull c =
    let a = c.args.label.now in
    let r = reach_of a in
    let k = c.args.band in
    let x0 = column_back a.x c.args.reach.now.l r.l c.column.result k (search rules) (search rules) (search rules) c.column.ensures (ap (λ (p : BoxPx). p.l) c.requires.reach) in
    let y0 = column_back a.y c.args.reach.now.b r.b c.column-2.result k (search rules) (search rules) (search rules) c.column-2.ensures (ap (λ (p : BoxPx). p.b) c.requires.reach) in
    let x1 = column_back a.x c.args.reach.now.r r.r c.column-3.result k (search rules) (search rules) (search rules) c.column-3.ensures (ap (λ (p : BoxPx). p.r) c.requires.reach) in
    let y1 = column_back a.y c.args.reach.now.t r.t c.column-4.result k (search rules) (search rules) (search rules) c.column-4.ensures (ap (λ (p : BoxPx). p.t) c.requires.reach) in
    rw (x0, y0, x1, y1) refl

pub returns-clause-few_columns : goal.returns-clause-few_columns
returns-clause-few_columns c =
    let a = c.args.label.now in
    let r = reach_of a in
    let k = c.args.band in
    let x0 = column_back a.x c.args.reach.now.l r.l c.column.result k (search rules) (search rules) (search rules) c.column.ensures (ap (λ (p : BoxPx). p.l) c.requires.reach) in
    let x1 = column_back a.x c.args.reach.now.r r.r c.column-3.result k (search rules) (search rules) (search rules) c.column-3.ensures (ap (λ (p : BoxPx). p.r) c.requires.reach) in
    rw (x0, x1) (few_columns a.x r.l r.r k (reach_extent a).wide)

pub returns-clause-few_rows : goal.returns-clause-few_rows
returns-clause-few_rows c =
    let a = c.args.label.now in
    let r = reach_of a in
    let k = c.args.band in
    let y0 = column_back a.y c.args.reach.now.b r.b c.column-2.result k (search rules) (search rules) (search rules) c.column-2.ensures (ap (λ (p : BoxPx). p.b) c.requires.reach) in
    let y1 = column_back a.y c.args.reach.now.t r.t c.column-4.result k (search rules) (search rules) (search rules) c.column-4.ensures (ap (λ (p : BoxPx). p.t) c.requires.reach) in
    rw (y0, y1) (few_columns a.y r.b r.t k (reach_extent a).high)
