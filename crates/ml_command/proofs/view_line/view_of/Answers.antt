use Rattle.std.proofs.Common.{ap, sym, ◌∙◌}
use Rattle.ml_answer.specs.View.{with_labels}
use Rattle.ml_command.proofs.ShownMore.{shown_more}
use Rattle.ml_command.proofs.view_line.view_of.Goals as goal

pub loop-place-preserved : goal.loop-place-preserved
loop-place-preserved c =
    let labels = c.args.labels.now in
    let slots = c.args.slots.now in
    let places = c.args.places.now in
    let k = c.loop-place.place-index in
    let left = c.loop-place-test.true in
    let more = shown_more labels slots c.requires.one_each c.index-labels-i.result c.index-slots-i.result places k left (c.requires.placed k 0 left) c.index-labels-i.is in
    rw (c.in_ok-add.ensures.ok) (ap (with_labels c.loop-place.view) (sym more) ∙ c.loop-place.invariant)
