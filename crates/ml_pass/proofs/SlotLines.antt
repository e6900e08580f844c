-- The text of slots, a line more at a time.
use Rattle.std.proofs.Common.{◌≡◌, ℕ, ◌+◌, ◌<◌, List, [], ◌∷◌, ◌++◌, length, get_or, take, arith, ap, ◌∙◌, sym}
use Rattle.std.proofs.lemmas.List.{append_assoc, append-nil, length-take, take_more}
use Rattle.ml_cone.specs.declared.label.Label.{Label}
use Rattle.ml_cone.specs.declared.slot.Slot.{Slot}
use Rattle.ml_pass.specs.SlotsText.{slot_line, slot_lines, blocker_name}

module _ (all : List (List ℕ)) where
  abbrev line_of : Label → Slot → List ℕ
  line_of label slot = slot_line label.order.id slot.until (blocker_name all slot.blocker)

  lines_push : (labels : List Label) (slots : List Slot) (label : Label) (slot : Slot) → length slots ≡ length labels →
      slot_lines all (labels ++ label ∷ []) (slots ++ slot ∷ []) ≡ slot_lines all labels slots ++ line_of label slot
  lines_push [] [] label slot n = append-nil (line_of label slot)
  lines_push [] (s ∷ slots) label slot n = absurd (omega arith)
  lines_push (l ∷ labels) [] label slot n = absurd (omega arith)
  lines_push (l ∷ labels) (s ∷ slots) label slot n =
      ap (λ (rest : List ℕ). line_of l s ++ rest) (lines_push labels slots label slot (omega arith))
      ∙ sym (append_assoc (line_of l s) (slot_lines all labels slots) (line_of label slot))

  -- the text of the first slots with the next label's line behind it is the text of one slot more
  pub lines_more : (labels : List Label) (slots : List Slot) (i : ℕ) (d : Label) (e : Slot) → length slots ≡ length labels →
      i < length labels → slot_lines all (take (i + 1) labels) (take (i + 1) slots) ≡ slot_lines all (take i labels) (take i slots)
      ++ slot_line (get_or labels i d).order.id (get_or slots i e).until (blocker_name all (get_or slots i e).blocker)
  lines_more labels slots i d e n at =
      rw (take_more labels i d at, take_more slots i e (omega arith))
      (lines_push (take i labels) (take i slots) (get_or labels i d) (get_or slots i e) (omega (arith, length-take i labels, length-take i slots)))
