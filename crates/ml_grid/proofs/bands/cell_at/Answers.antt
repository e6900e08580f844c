use Rattle.std.proofs.Common.{rules, ◌≡◌, ap, ℕ, ◌/◌, ◌%◌, ◌<◌, arith, refl, w32, pos, ◌+ℤ◌, FitsSigned}
use Rattle.ml_grid.specs.Cell.{same_cell}
use Rattle.ml_grid.specs.Count.{count_between}
use Rattle.std.proofs.lemmas.Nat.{div_below, mod_below}
use Rattle.ml_grid.proofs.Casts.{between_fits, sum_back, sum_fits, few_span, rows_back}
use Rattle.ml_grid.proofs.Places.{among_at}
use Rattle.ml_grid.proofs.bands.cell_at.Goals as goal

pub overflow_add-result : goal.overflow_add-result
overflow_add-result c =
    let s = c.args.cells.now in
    let among = among_at s c.requires.few_columns.0 c.requires.few_rows.0 c.args.i c.requires.inside in
    let f : FitsSigned w32 s.x0 = search rules in
    let g : FitsSigned w32 s.x1 = search rules in
    let fy : FitsSigned w32 s.y0 = search rules in
    let gy : FitsSigned w32 s.y1 = search rules in
    let e = rows_back s.y0 s.y1 c.span_len-rows.result fy gy c.span_len-rows.ensures.len in
    let h = between_fits s.x0 s.x1 (s.x0 +ℤ pos (c.args.i / count_between s.y0 s.y1)) f g among.0 among.1 in
    let few = few_span s.x0 s.x1 c.requires.few_columns.0 c.requires.few_columns.1 in
    let low : c.args.i / count_between s.y0 s.y1 < count_between s.x0 s.x1 = div_below c.args.i (count_between s.y0 s.y1) (count_between s.x0 s.x1) (omega arith) c.requires.inside in
    let same : c.args.i / c.span_len-rows.result ≡ c.args.i / count_between s.y0 s.y1 = ap (λ (n : ℕ). c.args.i / n) e in
    sum_fits s.x0 (c.args.i / c.span_len-rows.result) (c.args.i / count_between s.y0 s.y1) f (omega arith) h same

pub returns : goal.returns
returns c =
    let s = c.args.cells.now in
    let among = among_at s c.requires.few_columns.0 c.requires.few_rows.0 c.args.i c.requires.inside in
    let f : FitsSigned w32 s.x0 = search rules in
    let g : FitsSigned w32 s.x1 = search rules in
    let fy : FitsSigned w32 s.y0 = search rules in
    let gy : FitsSigned w32 s.y1 = search rules in
    let e = rows_back s.y0 s.y1 c.span_len-rows.result fy gy c.span_len-rows.ensures.len in
    let few = few_span s.x0 s.x1 c.requires.few_columns.0 c.requires.few_columns.1 in
    let fewer = few_span s.y0 s.y1 c.requires.few_rows.0 c.requires.few_rows.1 in
    let low : c.args.i / count_between s.y0 s.y1 < count_between s.x0 s.x1 = div_below c.args.i (count_between s.y0 s.y1) (count_between s.x0 s.x1) (omega arith) c.requires.inside in
    let lower : c.args.i % count_between s.y0 s.y1 < count_between s.y0 s.y1 = mod_below c.args.i (count_between s.y0 s.y1) (omega arith) in
    let same : c.args.i / c.span_len-rows.result ≡ c.args.i / count_between s.y0 s.y1 = ap (λ (n : ℕ). c.args.i / n) e in
    let alike : c.args.i % c.span_len-rows.result ≡ c.args.i % count_between s.y0 s.y1 = ap (λ (n : ℕ). c.args.i % n) e in
    let hx = between_fits s.x0 s.x1 (s.x0 +ℤ pos (c.args.i / count_between s.y0 s.y1)) f g among.0 among.1 in
    let hy = between_fits s.y0 s.y1 (s.y0 +ℤ pos (c.args.i % count_between s.y0 s.y1)) fy gy among.2 among.3 in
    let fx : FitsSigned w32 (s.x0 +ℤ pos (c.args.i / c.span_len-rows.result)) = rw same hx in
    let fz : FitsSigned w32 (s.y0 +ℤ pos (c.args.i % c.span_len-rows.result)) = rw alike hy in
    let x = sum_back s.x0 (c.args.i / c.span_len-rows.result) (c.args.i / count_between s.y0 s.y1) f (omega arith) fx same in
    let y = sum_back s.y0 (c.args.i % c.span_len-rows.result) (c.args.i % count_between s.y0 s.y1) fy (omega arith) fz alike in
    same_cell _ _ _ _ _ _ refl x y
