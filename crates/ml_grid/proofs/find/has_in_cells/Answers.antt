use Rattle.std.proofs.Common.{rules, arith, refl, sym, ◌∙◌, FitsSigned, w32, ℤ, pos, ◌+ℤ◌, ◌<◌, subst}
use Rattle.std.proofs.lemmas.Bool.{false≢true}
use Rattle.ml_grid.specs.Count.{count_between}
use Rattle.ml_grid.specs.Column.{IsInColumnFrom}
use Rattle.ml_grid.specs.Found.{HasEntry}
use Rattle.ml_grid.proofs.Casts.{sum_back, between_fits, rows_back}
use Rattle.ml_grid.proofs.Places.{span_in}
use Rattle.ml_grid.proofs.Finds.{lacks_none, lacks_more, lacks_all_from, has_here}
use Rattle.ml_grid.proofs.find.has_in_cells.Goals as goal

pub loop-i-init : goal.loop-i-init
loop-i-init c = lacks_none c.args.cells.now c.args.scale.now c.args.tree.now.entries

pub returns-then-has_in_column : goal.returns-then-has_in_column
returns-then-has_in_column c =
    let s = c.args.cells.now in
    let i = c.loop-i.i in
    let f0 : FitsSigned w32 s.x0 = search rules in
    let f1 : FitsSigned w32 s.x1 = search rules in
    let n = rows_back s.x0 s.x1 c.span_len-i-end.result f0 f1 c.span_len-i-end.ensures.len in
    let low : i < count_between s.x0 s.x1 = (let few = c.span_len-i-end.ensures.few in omega arith) in
    let inside = span_in s.x0 s.x1 i c.requires.few.0 low in
    let g = between_fits s.x0 s.x1 (s.x0 +ℤ pos i) f0 f1 inside.0 inside.1 in
    let ex = sum_back s.x0 i i f0 (let few = c.span_len-i-end.ensures.few in omega arith) g refl in
    let here : HasEntry (IsInColumnFrom s (s.x0 +ℤ pos i) c.args.scale.now) c.args.tree.now.entries =
    subst (λ (z : ℤ). HasEntry (IsInColumnFrom s z c.args.scale.now) c.args.tree.now.entries) ex (c.has_in_column.ensures.0 c.if-has_in_column.true) in
    (λ holds. has_here s c.args.scale.now i (count_between s.x0 s.x1) c.args.tree.now.entries low c.requires.few.0 refl here, λ there. refl)

pub loop-i-preserved : goal.loop-i-preserved
loop-i-preserved c =
    let s = c.args.cells.now in
    let i = c.loop-i.i in
    let f0 : FitsSigned w32 s.x0 = search rules in
    let f1 : FitsSigned w32 s.x1 = search rules in
    let n = rows_back s.x0 s.x1 c.span_len-i-end.result f0 f1 c.span_len-i-end.ensures.len in
    let low : i < count_between s.x0 s.x1 = (let few = c.span_len-i-end.ensures.few in omega arith) in
    let inside = span_in s.x0 s.x1 i c.requires.few.0 low in
    let g = between_fits s.x0 s.x1 (s.x0 +ℤ pos i) f0 f1 inside.0 inside.1 in
    let ex = sum_back s.x0 i i f0 (let few = c.span_len-i-end.ensures.few in omega arith) g refl in
    lacks_more s c.args.scale.now i c.args.tree.now.entries c.loop-i.invariant
    (subst (λ (z : ℤ). ¬ (HasEntry (IsInColumnFrom s z c.args.scale.now) c.args.tree.now.entries)) ex
    (λ here. false≢true (sym c.if-has_in_column.false ∙ c.has_in_column.ensures.1 here)))

pub returns : goal.returns
returns c =
    let s = c.args.cells.now in
    let i = c.loop-i.i in
    let f0 : FitsSigned w32 s.x0 = search rules in
    let f1 : FitsSigned w32 s.x1 = search rules in
    let n = rows_back s.x0 s.x1 c.span_len-i-end.result f0 f1 c.span_len-i-end.ensures.len in
    (λ holds. absurd (false≢true holds), λ there. absurd (lacks_all_from s c.args.scale.now i c.args.tree.now.entries c.requires.few.0 (omega arith) c.loop-i.invariant there))
