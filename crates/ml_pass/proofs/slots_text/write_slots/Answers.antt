use Rattle.std.proofs.Common.{◌++◌, ◌<◌, ◌∙◌, sym, ap, length, arith}
use Rattle.ml_pass.specs.SlotsText.{ids}
use Rattle.ml_pass.proofs.SlotLines.{lines_more}
use Rattle.ml_pass.proofs.slots_text.write_slots.Goals as goal

pub loop-i-preserved : goal.loop-i-preserved
loop-i-preserved c =
    let labels = c.args.labels.now in
    let at : c.loop-i.i < length labels = omega arith in
    let id = c.as_str.ensures.bytes ∙ c.id.ensures ∙ ap (λ l. l.order.id) c.index-labels-i.is in
    let line = rw (id, c.blocker_of-blocker.ensures) at c.in_ok-line.ensures in
    let more = lines_more (ids labels) labels c.args.slots.now c.loop-i.i c.index-labels-i.result c.index-slots-i.result c.requires.one_each at in
    c.in_ok-extend_from_slice.ensures.items ∙ ap (λ w. c.loop-i.text.items ++ w) (c.as_bytes.ensures.value ∙ line) ∙ rw c.loop-i.invariant (sym (rw (sym c.index-slots-i.is) at more))
