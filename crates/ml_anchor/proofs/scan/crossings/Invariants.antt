use Rattle.std.proofs.Common.{◌≡◌, take}
use Rattle.std.specs.List.{flat_map}
use Rattle.ml_anchor.specs.Scan.{ring_crossings}
use Rattle.ml_anchor.proofs.scan.crossings.Given as goal

abbrev pub invariant-loop-ring : goal.invariant-loop-ring
invariant-loop-ring l = l.found.items ≡ flat_map (ring_crossings l.fn.h) (take l.ring-index l.rings)
