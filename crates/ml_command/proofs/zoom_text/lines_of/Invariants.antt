use Rattle.std.proofs.Common.{◌≡◌, take}
use Rattle.ml_command.specs.Zoom.{zoom_lines}
use Rattle.ml_command.proofs.zoom_text.lines_of.Given as goal

abbrev pub invariant-loop-i : goal.invariant-loop-i
invariant-loop-i l = l.text.items ≡ zoom_lines (take l.i l.labels) (take l.i l.all)
