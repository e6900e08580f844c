use Rattle.std.proofs.Common.{◌≡◌, List, [], ap, sym, subst, ◌∙◌}
use Rattle.std.proofs.lemmas.List.{get_or_read}
use Rattle.ml_ratio.specs.declared.geometry.Pos.{Pos}
use Rattle.ml_river.specs.Run.{line_at, turned}
use Rattle.ml_river.specs.Height.{IsRising}
use Rattle.ml_river.proofs.TurnLemmas.{turned_run}
use Rattle.ml_river.proofs.river.place.Goals as goal

pub place_on-requires-clause-rising : goal.place_on-requires-clause-rising
place_on-requires-clause-rising c =
    let w = c.in-Some.ensures in
    let run = w.run in
    let line : c.as_slice-line.result.now ≡ line_at c.args.lines.now c.in-Some.widest.line =
    c.as_slice-line.ensures ∙ get_or_read c.args.lines.now c.in-Some.widest.line c.index-lines-widest.result run.0 c.index-lines-widest.is [] in
    let is : c.deref.result.now ≡ turned (line_at c.args.lines.now c.in-Some.widest.line) c.in-Some.widest.from c.in-Some.widest.to =
    c.deref.ensures.value ∙ (c.in_ok-run-in-Some.ensures ∙ ap (λ (l : List Pos). turned l c.in-Some.widest.from c.in-Some.widest.to) line) in
    let t = turned_run (line_at c.args.lines.now c.in-Some.widest.line) c.in-Some.widest.from c.in-Some.widest.to run.1 in
    subst (λ (l : List Pos). IsRising l) (sym is) t.rising
