-- New slots of labels that stay.
use Rattle.std.specs.Prelude.{ℕ, ◌+◌, ◌==◌, List, [], ◌∷◌, map, if◌then◌else◌}
use Rattle.ml_cone.specs.declared.slot.Slot.{Slot}
use Rattle.ml_ratio.specs.declared.ratio.Ratio.{Ratio}
use Rattle.ml_store.specs.Pairs.{pair_count}
use Rattle.ml_store.specs.declared.moved.Moved.{Moved}
use Rattle.ml_store.specs.declared.row.Row.{Row}

-- the slot for a number: the last new one that there is for it, or its own
abbrev pub slot_for : ℕ → Slot → List Moved → Slot
slot_for number own [] = own
slot_for number own (m ∷ moved) = slot_for number (if m.number == number then m.slot else own) moved

-- the row with its new slot
abbrev pub moved_row : List Moved → Row → Row
moved_row moved r = record r { slot = slot_for r.number r.slot moved }

-- the rows with their new slots
abbrev pub moved_rows : List Moved → List Row → List Row
moved_rows moved rows = map (moved_row moved) rows

-- how many pairs come with new slots
abbrev pub moved_pairs : List Moved → ℕ
moved_pairs [] = 0
moved_pairs (m ∷ moved) = pair_count m.slot.blocker + moved_pairs moved

-- the end that the first row with the number has; where no row has it, this one
abbrev pub end_in : List Row → ℕ → Ratio → Ratio
end_in [] number end = end
end_in (r ∷ rows) number end = if r.number == number then r.slot.until else end_in rows number end
