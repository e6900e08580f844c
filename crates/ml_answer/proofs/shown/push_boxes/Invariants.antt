use Rattle.std.proofs.Common.{◌≡◌, ◌++◌, false, drop}
use Rattle.ml_answer.specs.Layout.{boxes_text}
use Rattle.ml_answer.proofs.shown.push_boxes.Given as goal

-- with the rest of the boxes, what stands there is what stood there with all of them
abbrev pub invariant-loop-p : goal.invariant-loop-p
invariant-loop-p l = l.text.items ++ boxes_text l.later (drop l.p-index l.boxes) ≡ l.fn.text.items ++ boxes_text false l.boxes
