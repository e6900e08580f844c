use Rattle.std.proofs.Common.{◌≡◌, take}
use Rattle.ml_pass.specs.SlotsText.{ids, slot_lines}
use Rattle.ml_pass.proofs.slots_text.write_slots.Given as goal

abbrev pub invariant-loop-i : goal.invariant-loop-i
invariant-loop-i l = l.text.items ≡ slot_lines (ids l.labels) (take l.i l.labels) (take l.i l.slots)
