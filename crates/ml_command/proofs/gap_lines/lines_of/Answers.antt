use Rattle.std.proofs.Common.{◌++◌, ◌<◌, ◌∙◌, ap, length, arith, sym}
use Rattle.ml_command.proofs.GapLemmas.{lines_more}
use Rattle.ml_command.proofs.gap_lines.lines_of.Goals as goal

pub loop-i-preserved : goal.loop-i-preserved
loop-i-preserved c =
    let labels = c.args.labels.now in
    let at : c.loop-i.i < length labels = omega arith in
    let id = c.as_str.ensures.bytes ∙ c.id.ensures ∙ ap (λ l. l.order.id) c.index-labels-i.is in
    let line = rw id at c.in_ok-line.ensures in
    let more = lines_more labels c.args.gaps.now c.loop-i.i c.index-labels-i.result c.index-gaps-i.result c.requires.one_each at in
    c.in_ok-extend_from_slice.ensures.items ∙ ap (λ w. c.loop-i.text.items ++ w) (c.as_bytes.ensures.value ∙ line) ∙ rw c.loop-i.invariant (sym (rw (sym c.index-gaps-i.is) at more))
