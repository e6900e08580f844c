use Rattle.std.proofs.Common.{◌≡◌, take}
use Rattle.ml_command.specs.GapLines.{gap_lines}
use Rattle.ml_command.proofs.gap_lines.lines_of.Given as goal

abbrev pub invariant-loop-i : goal.invariant-loop-i
invariant-loop-i l = l.text.items ≡ gap_lines (take l.i l.labels) (take l.i l.gaps)
