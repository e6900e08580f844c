use Rattle.std.proofs.Common.{rules, arith, FitsSigned, w32, ℤ, pos, ◌+ℤ◌, ◌<◌, ◌+◌, subst, refl}
use Rattle.ml_grid.specs.Count.{count_between}
use Rattle.ml_grid.specs.Column.{IsInColumnFrom, IsAmongFrom}
use Rattle.ml_grid.proofs.Partial.{IsAmongFirstFrom}
use Rattle.ml_grid.specs.Found.{Finds}
use Rattle.ml_grid.proofs.Casts.{sum_back, between_fits, rows_back}
use Rattle.ml_grid.proofs.Places.{span_in}
use Rattle.ml_grid.proofs.Finds.{finds_both, finds_same, first_more_from, first_all_from}
use Rattle.ml_grid.proofs.find.find_cells_from.Goals as goal

pub loop-i-preserved : goal.loop-i-preserved
loop-i-preserved c =
    let s = c.args.cells.now in
    let i = c.loop-i.i in
    let f0 : FitsSigned w32 s.x0 = search rules in
    let f1 : FitsSigned w32 s.x1 = search rules in
    let n = rows_back s.x0 s.x1 c.span_len-i-end.result f0 f1 c.span_len-i-end.ensures.len in
    let low : i < count_between s.x0 s.x1 = (let few = c.span_len-i-end.ensures.few in omega arith) in
    let inside = span_in s.x0 s.x1 i c.requires.few.0 low in
    let g = between_fits s.x0 s.x1 (s.x0 +ℤ pos i) f0 f1 inside.0 inside.1 in
    let ex = sum_back s.x0 i i f0 (let few = c.span_len-i-end.ensures.few in omega arith) g refl in
    let h : Finds (IsInColumnFrom s (s.x0 +ℤ pos i) c.args.scale.now) c.args.tree.now.entries c.loop-i.found c.find_column_from.new.found =
    subst (λ (z : ℤ). Finds (IsInColumnFrom s z c.args.scale.now) c.args.tree.now.entries c.loop-i.found c.find_column_from.new.found) ex c.in_ok-find_column_from.ensures.ok in
    finds_both (IsAmongFirstFrom s c.args.scale.now i) (IsInColumnFrom s (s.x0 +ℤ pos i) c.args.scale.now) (IsAmongFirstFrom s c.args.scale.now (i + 1))
    c.args.tree.now.entries c.args.found.now c.loop-i.found c.find_column_from.new.found c.loop-i.invariant h (first_more_from s c.args.scale.now i)

pub returns : goal.returns
returns c =
    let s = c.args.cells.now in
    let i = c.loop-i.i in
    let f0 : FitsSigned w32 s.x0 = search rules in
    let f1 : FitsSigned w32 s.x1 = search rules in
    let n = rows_back s.x0 s.x1 c.span_len-i-end.result f0 f1 c.span_len-i-end.ensures.len in
    record {
      ok = finds_same (IsAmongFirstFrom s c.args.scale.now i) (IsAmongFrom s c.args.scale.now) c.args.tree.now.entries c.args.found.now c.loop-i.found c.loop-i.invariant
          (first_all_from s c.args.scale.now i c.requires.few.0 (omega arith));
    }
