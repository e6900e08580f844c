use Rattle.std.proofs.Common.{◌≡◌, ◌++◌, drop}
use Rattle.ml_command.specs.Zoom.{stays_text}
use Rattle.ml_command.proofs.zoom_text.push_stays.Given as goal

abbrev pub invariant-loop-stay : goal.invariant-loop-stay
invariant-loop-stay l = l.text.items ++ stays_text (drop l.stay-index l.stays) ≡ l.fn.text.items ++ stays_text l.stays
