use Rattle.std.proofs.Common.{◌≡◌, ◌++◌, ◌∷◌, flat_map, take}
use Rattle.ml_follow.specs.StateText.{box_text}
use Rattle.ml_follow.proofs.line.push_boxes.Given as goal

abbrev pub invariant-loop-p : goal.invariant-loop-p
invariant-loop-p l = l.line.items ≡ l.fn.line.items ++ flat_map (λ p. 32 ∷ box_text p) (take l.p-index l.boxes)
