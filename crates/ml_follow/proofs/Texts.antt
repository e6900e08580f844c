-- How the lines of a state's text are put together.
use Rattle.std.proofs.Common.{◌≡◌, ℕ, List, [], ◌∷◌, ◌++◌, length, map, flat_map, refl, sym, ap, ◌∙◌, arith, append_assoc, append-nil}
use Rattle.std.specs.Prelude.{codes}
use Rattle.std.specs.Fmt.{decimal, signed_decimal}
use Rattle.ml_ratio.specs.Ratio.{ratio_text}
use Rattle.ml_cone.specs.declared.label.BoxPx.{BoxPx}
use Rattle.ml_cone.specs.declared.label.Label.{Label}
use Rattle.ml_cone.specs.declared.slot.Slot.{Slot}
use Rattle.ml_watch.specs.Line.{id_text}
use Rattle.ml_follow.specs.StateText.{joined, box_text, blocker_text, place_words, end_words, row_words, row_line, row_lines, head_line, begun_text}

-- of four words joined by commas, each but the last has a comma behind it
pub four_joined : (l b r t : List ℕ) → joined 44 (l ∷ b ∷ r ∷ t ∷ []) ≡ l ++ (44 ∷ (b ++ (44 ∷ (r ++ (44 ∷ t)))))
four_joined l b r t = rw (append-nil t) refl

-- boxes behind blanks, as words and as they are written
boxes_behind : (boxes : List BoxPx) → flat_map (λ (word : List ℕ). 32 ∷ word) (map box_text boxes) ≡ flat_map (λ (p : BoxPx). 32 ∷ box_text p) boxes
boxes_behind [] = refl
boxes_behind (p ∷ boxes) = ap (λ (t : List ℕ). (32 ∷ box_text p) ++ t) (boxes_behind boxes)

words_behind : (words more : List (List ℕ)) → flat_map (λ (word : List ℕ). 32 ∷ word) (words ++ more) ≡ flat_map (λ (word : List ℕ). 32 ∷ word) words ++ flat_map (λ (word : List ℕ). 32 ∷ word) more
words_behind [] more = refl
words_behind (w ∷ words) more =
    ap (λ (t : List ℕ). (32 ∷ w) ++ t) (words_behind words more)
    ∙ sym (append_assoc (32 ∷ w) (flat_map (λ (word : List ℕ). 32 ∷ word) words) (flat_map (λ (word : List ℕ). 32 ∷ word) more))

-- the words of a label and its slot, without its boxes
abbrev pub few_words : Label → Slot → List (List ℕ)
few_words label slot =
    signed_decimal label.x ∷ signed_decimal label.y ∷ ratio_text label.min ∷ ratio_text label.max ∷ decimal label.margin ∷ ratio_text slot.until ∷ blocker_text slot.blocker ∷ []

place_behind : (x y min max : List ℕ) → (32 ∷ (x ++ (32 ∷ (y ++ (32 ∷ (min ++ (32 ∷ max))))))) ≡ flat_map (λ (word : List ℕ). 32 ∷ word) (x ∷ y ∷ min ∷ max ∷ [])
place_behind x y min max = rw (append-nil max) refl

end_behind : (margin until blocker : List ℕ) → (32 ∷ (margin ++ (32 ∷ (until ++ (32 ∷ blocker))))) ≡ flat_map (λ (word : List ℕ). 32 ∷ word) (margin ∷ until ∷ blocker ∷ [])
end_behind margin until blocker = rw (append-nil blocker) refl

few_behind : (label : Label) (slot : Slot) → row_words label slot ≡ flat_map (λ (word : List ℕ). 32 ∷ word) (few_words label slot)
unfolding place_words end_words
few_behind label slot =
    ap (λ (t : List ℕ). t ++ end_words label.margin (ratio_text slot.until) (blocker_text slot.blocker))
    (place_behind (signed_decimal label.x) (signed_decimal label.y) (ratio_text label.min) (ratio_text label.max))
    ∙ ap (λ (t : List ℕ). flat_map (λ (word : List ℕ). 32 ∷ word) (signed_decimal label.x ∷ signed_decimal label.y ∷ ratio_text label.min ∷ ratio_text label.max ∷ []) ++ t)
    (end_behind (decimal label.margin) (ratio_text slot.until) (blocker_text slot.blocker))
    ∙ sym (words_behind (signed_decimal label.x ∷ signed_decimal label.y ∷ ratio_text label.min ∷ ratio_text label.max ∷ [])
    (decimal label.margin ∷ ratio_text slot.until ∷ blocker_text slot.blocker ∷ []))

-- the id, the other words, the boxes behind blanks and LF, as they are written, are the line of the label and its slot
pub row_made : (label : Label) (slot : Slot) → ((id_text label.order.id ++ row_words label slot) ++ flat_map (λ (p : BoxPx). 32 ∷ box_text p) label.boxes) ++ codes "\n" ≡ row_line label slot
row_made label slot =
    let boxes = flat_map (λ (p : BoxPx). 32 ∷ box_text p) label.boxes in
    let whole : row_words label slot ++ boxes ≡ flat_map (λ (word : List ℕ). 32 ∷ word) (few_words label slot ++ map box_text label.boxes) =
    ap (λ (t : List ℕ). t ++ boxes) (few_behind label slot)
    ∙ ap (λ (t : List ℕ). flat_map (λ (word : List ℕ). 32 ∷ word) (few_words label slot) ++ t) (sym (boxes_behind label.boxes))
    ∙ sym (words_behind (few_words label slot) (map box_text label.boxes)) in
    ap (λ (t : List ℕ). t ++ codes "\n") (append_assoc (id_text label.order.id) (row_words label slot) boxes ∙ ap (λ (t : List ℕ). id_text label.order.id ++ t) whole)

-- a further label
pub rows_push : (labels : List Label) (slots : List Slot) (label : Label) (slot : Slot) → length slots ≡ length labels →
    row_lines (labels ++ label ∷ []) (slots ++ slot ∷ []) ≡ row_lines labels slots ++ row_line label slot
rows_push [] [] label slot e = append-nil (row_line label slot)
rows_push [] (s ∷ slots) label slot e = absurd (omega arith)
rows_push (a ∷ labels) [] label slot e = absurd (omega arith)
rows_push (a ∷ labels) (s ∷ slots) label slot e =
    ap (λ (t : List ℕ). row_line a s ++ t) (rows_push labels slots label slot (omega arith))
    ∙ sym (append_assoc (row_line a s) (row_lines labels slots) (row_line label slot))

-- with a label's line written behind it, the text of the first labels is that of one label more
pub begun_push : (rev count : ℕ) (labels : List Label) (slots : List Slot) (label : Label) (slot : Slot) (old new : List ℕ) → new ≡ old ++ row_line label slot →
    length slots ≡ length labels → old ≡ begun_text rev count labels slots → new ≡ begun_text rev count (labels ++ label ∷ []) (slots ++ slot ∷ [])
begun_push rev count labels slots label slot old new e long begun =
    e ∙ ap (λ (t : List ℕ). t ++ row_line label slot) begun ∙ append_assoc (head_line rev count) (row_lines labels slots) (row_line label slot)
    ∙ ap (λ (t : List ℕ). head_line rev count ++ t) (sym (rows_push labels slots label slot long))
