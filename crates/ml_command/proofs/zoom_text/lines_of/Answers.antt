use Rattle.std.proofs.Common.{◌<◌, ◌∙◌, ap, length, arith, sym}
use Rattle.ml_command.proofs.ZoomLemmas.{lines_more}
use Rattle.ml_command.proofs.zoom_text.lines_of.Goals as goal

pub loop-i-preserved : goal.loop-i-preserved
loop-i-preserved c =
    let labels = c.args.labels.now in
    let at : c.loop-i.i < length labels = omega arith in
    let id = c.id.ensures ∙ ap (λ l. l.order.id) c.index-labels-i.is in
    let line = rw (id, c.as_slice.ensures) at c.in_ok-push_line.ensures in
    let more = lines_more labels c.args.all.now c.loop-i.i c.index-labels-i.result c.index-all-i.result c.requires.one_each at in
    line ∙ rw c.loop-i.invariant (sym (rw (sym c.index-all-i.is) at more))
