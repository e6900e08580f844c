use Rattle.std.proofs.Common.{◌≡◌, List, [], length, ap, subst, ◌∙◌, arith}
use Rattle.std.proofs.lemmas.List.{get_or_read}
use Rattle.ml_ratio.specs.declared.geometry.Pos.{Pos}
use Rattle.ml_river.specs.Run.{IsEndOfSteps, line_at, span}
use Rattle.ml_river.proofs.RunLemmas.{AtTurn, turn_at_end}
use Rattle.ml_river.proofs.SeenLemmas.{best_more, best_line}
use Rattle.ml_river.proofs.runs.widest_with.Goals as goal

pub loop-from-preserved : goal.loop-from-preserved
loop-from-preserved c =
    let is : c.as_slice-line.result.now ≡ line_at c.args.lines.now c.args.i =
    c.as_slice-line.ensures ∙ get_or_read c.args.lines.now c.args.i c.index-lines-i.result c.requires.there c.index-lines-i.is [] in
    let inv = c.loop-from.invariant in
    let end = subst (λ (l : List Pos). IsEndOfSteps l c.loop-from.from c.end_of-to.result) is c.end_of-to.ensures in
    let turn = subst (λ (l : List Pos). AtTurn l c.loop-from.from) is inv.1 in
    let s : c.span-span.result ≡ span (line_at c.args.lines.now c.args.i) c.loop-from.from c.end_of-to.result = c.span-span.ensures
    ∙ ap (λ (l : List Pos). span l c.loop-from.from c.end_of-to.result) is in (
      best_more c.args.lines.now c.args.i c.loop-from.from c.end_of-to.result c.span-span.result c.loop-from.best c.better-best.result c.requires.there turn end s inv.0 c.better-best.ensures,
      turn_at_end c.as_slice-line.result.now c.loop-from.from c.end_of-to.result c.end_of-to.ensures,
      omega (arith, c.end_of-to.ensures.there),
    )

pub returns : goal.returns
returns c =
    let is : c.as_slice-line.result.now ≡ line_at c.args.lines.now c.args.i =
    c.as_slice-line.ensures ∙ get_or_read c.args.lines.now c.args.i c.index-lines-i.result c.requires.there c.index-lines-i.is [] in
    best_line c.args.lines.now c.args.i c.loop-from.from c.loop-from.best (omega (arith, c.loop-from-test.false, ap (λ (l : List Pos). length l) is)) c.loop-from.invariant.0
