use Rattle.ml_cone.specs.Slots.{ends}
use Rattle.ml_view.proofs.Showing.{ShownBelow}
use Rattle.ml_view.proofs.filter.shown.Given as goal

abbrev pub invariant-loop-i : goal.invariant-loop-i
invariant-loop-i l = ShownBelow l.labels (ends l.slots) l.view l.i l.places
