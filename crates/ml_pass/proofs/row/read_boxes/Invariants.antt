use Rattle.std.proofs.Common.{map, take}
use Rattle.std.specs.List.{AllZip}
use Rattle.ml_pass.specs.Row.{ReadsBox}
use Rattle.ml_pass.proofs.row.read_boxes.Given as goal

abbrev pub invariant-loop-text : goal.invariant-loop-text
invariant-loop-text l = AllZip ReadsBox (map (λ p. p.now) (take l.text-index l.texts)) l.boxes
