use Rattle.std.proofs.Common.{◌≡◌, ◌++◌, drop, map}
use Rattle.ml_command.specs.GapLines.{slot_of}
use Rattle.ml_command.proofs.gap_lines.slots_of.Given as goal

abbrev pub invariant-loop-gap : goal.invariant-loop-gap
invariant-loop-gap l = l.slots.items ++ map slot_of (drop l.gap-index l.gaps) ≡ map slot_of l.gaps
