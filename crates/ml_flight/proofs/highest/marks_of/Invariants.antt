use Rattle.std.proofs.Common.{◌≡◌, take}
use Rattle.ml_flight.specs.Sweep.{begins_of, ends_of}
use Rattle.ml_flight.proofs.highest.marks_of.Given as goal

abbrev pub invariant-loop-stays : goal.invariant-loop-stays
invariant-loop-stays l =
    (l.marks.begins.items ≡ begins_of (take l.stays-index l.all))
    × (l.marks.ends.items ≡ ends_of (take l.stays-index l.all))
