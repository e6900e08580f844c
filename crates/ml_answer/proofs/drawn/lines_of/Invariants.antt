use Rattle.std.proofs.Common.{◌≡◌, ◌++◌, drop}
use Rattle.ml_answer.specs.Svg.{box_lines}
use Rattle.ml_answer.proofs.drawn.lines_of.Given as goal

abbrev pub invariant-loop-i : goal.invariant-loop-i
invariant-loop-i l = l.lines.items ++ box_lines l.view l.label (drop l.i l.boxes) (drop l.i l.pieces) ≡ box_lines l.view l.label l.boxes l.pieces
