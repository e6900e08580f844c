use Rattle.std.proofs.Common.{sym, ◌∙◌, ap, map}
use Rattle.ml_ratio.specs.Lines.{parts}
use Rattle.ml_follow.proofs.Rows.{row_result}
use Rattle.ml_follow.proofs.row.read_row.Goals as goal

pub returns-in-Some : goal.returns-in-Some
returns-in-Some c =
    let words = c.in-Some.words in
    let split = ap (parts 32) (sym c.in-Ok.ensures.cases.0) ∙ sym c.in_ok-words.ensures ∙ ap (map (λ part. part.now)) (sym c.as_slice.ensures.value) ∙ c.in-Some.ensures in
    row_result c.args.line.now words.id.now words.x.now words.y.now words.min.now words.max.now words.margin.now words.until.now words.blocker.now
    (map (λ part. part.now) words.boxes.now) c.args.place c.args.count c.row_of.result c.in-Ok.ensures.cases.1 split c.row_of.ensures
