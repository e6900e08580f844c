use Rattle.ml_cone.specs.Slots.{ends}
use Rattle.ml_cert.specs.Judged.{IsDue}
use Rattle.ml_cert.proofs.due.due_in_order.Given as goal

abbrev pub invariant-loop-j : goal.invariant-loop-j
invariant-loop-j l = IsDue l.labels (ends l.slots) l.i l.j l.due
