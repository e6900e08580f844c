use Rattle.std.proofs.Common.{◌<◌, ◌∙◌, sym, length, arith}
use Rattle.ml_cone.specs.Slots.{ends, no_slot}
use Rattle.ml_cone.specs.Shown.{IsShown}
use Rattle.std.proofs.lemmas.List.{get_or_default}
use Rattle.ml_view.proofs.Showing.{shown_here, shown_more, shown_skip}
use Rattle.ml_view.proofs.filter.shown.Goals as goal
use Rattle.ml_view.proofs.filter.shown.Goals.{then-is_shown+in_ok-push, else-is_shown}

pub loop-i-preserved : goal.loop-i-preserved
loop-i-preserved c =
    let labels = c.args.labels.now in
    let slots = c.args.slots.now in
    let view = c.args.view.now in
    let label = c.index-labels-i.result in
    let slot = c.index-slots-i.result in
    let lt : c.loop-i.i < length labels = omega arith in
    let one = c.requires.one_each in
    let same_slot = c.index-slots-i.is ∙ get_or_default slots c.loop-i.i slot no_slot (omega arith) in
    elim c.if-is_shown.branch [
      | then-is_shown+in_ok-push w ↦
          (let here = rw (same_slot, c.index-labels-i.is) at (c.is_shown.ensures.0 w.if-is_shown.true) in
          rw (w.places-is ∙ w.in_ok-push.ensures.ok) (shown_more labels (ends slots) view c.loop-i.i c.loop-i.places c.loop-i.invariant (shown_here labels (ends slots) view c.loop-i.i label lt here)))
      | else-is_shown w ↦
          (let not : ¬ (IsShown labels (ends slots) view c.loop-i.i) = (λ is.
          let here = rw (sym same_slot, sym c.index-labels-i.is) at (is.1 label) in
          let yes = c.is_shown.ensures.1 here in
          let both = sym w.if-is_shown.false ∙ yes in
          absurd (cc)) in
          rw w.places-is (shown_skip labels (ends slots) view c.loop-i.i c.loop-i.places c.loop-i.invariant not))
    ]
