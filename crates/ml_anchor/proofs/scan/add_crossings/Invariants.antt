use Rattle.std.proofs.Common.{◌≡◌, ◌-◌, ◌++◌, take}
use Rattle.std.specs.List.{filter_map}
use Rattle.ml_anchor.specs.Ring.{edges}
use Rattle.ml_anchor.specs.Scan.{crossing}
use Rattle.ml_anchor.proofs.scan.add_crossings.Given as goal

abbrev pub invariant-loop-i : goal.invariant-loop-i
invariant-loop-i l =
    l.found.items ≡ l.fn.found.items ++ filter_map (crossing l.fn.h) (take (l.i - 1) (edges l.ring))
