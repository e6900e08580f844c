use Rattle.std.proofs.Common.{◌≡◌, ◌++◌, map, take}
use Rattle.ml_flight.specs.Stay.{begin_of}
use Rattle.ml_flight.proofs.highest.add.Given as goal

abbrev pub invariant-loop-stay : goal.invariant-loop-stay
invariant-loop-stay l =
    (l.marks.begins.items ≡ l.initial.marks.begins.items ++ map begin_of (take l.stay-index l.stays))
    × (l.marks.ends.items ≡ l.initial.marks.ends.items ++ map (λ stay. stay.to) (take l.stay-index l.stays))
